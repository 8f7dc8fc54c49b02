-- The table line by line.
use Rattle.std.proofs.Common.{◌≡◌, ℕ, suc, ◌-◌, ◌≤◌, List, ◌++◌, codes, subst, arith}
use Rattle.market.specs.declared.date.Date.{Date}
use Rattle.timetable.specs.declared.row.Row.{Row}
use Rattle.timetable.specs.Row.{RowOf, row_text}
use Rattle.timetable.specs.Table.{Lines}

-- with the row of period p after the lines of those before it, the lines of the first p periods
pub lines_more : (day : Date) (p n : ℕ) (above text : List ℕ) (row : Row) → 1 ≤ p → p ≡ n → Lines day (p - 1) above →
    row.period.0 ≡ p → RowOf day row → text ≡ above ++ (row_text row ++ codes "\n") → Lines day n text
lines_more day p n above text row low e l q r t =
    let next : suc (p - 1) ≡ n = omega arith in
    let same : row.period.0 ≡ suc (p - 1) = omega arith in
    subst (λ k. Lines day k text) next (above, row, l, same, r, t)

-- the lines of as many periods as there are
pub lines_all : (day : Date) (m n : ℕ) (text : List ℕ) → Lines day m text → m ≡ n → Lines day n text
lines_all day m n text l e = subst (λ k. Lines day k text) e l
