-- The table of a day.
use Rattle.std.specs.Prelude.{◌≡◌, ℕ, zero, suc, List, ◌++◌, codes, decimal}
use Rattle.market.specs.declared.clock.DayKind.{DayKind}
use Rattle.market.specs.declared.date.Date.{Date}
use Rattle.market.specs.Clock.{periods_of}
use Rattle.timetable.specs.declared.row.Row.{Row}
use Rattle.timetable.specs.Text.{date_text, kind_text}
use Rattle.timetable.specs.Row.{kind_on, RowOf, row_text}

-- the date, its kind and its number of periods, and the names of the columns
abbrev pub heading_text : Date → DayKind → List ℕ
heading_text day kind =
    date_text day ++ (codes "  " ++ (kind_text kind ++ (codes ", " ++ (decimal (periods_of kind) ++ codes " Settlement Periods\nperiod  ends       UTC date    UTC period\n"))))

-- after the heading, a line for each of the first n periods, in their order
abbrev pub Lines : Date → ℕ → List ℕ → Type 0
Lines day zero text = text ≡ heading_text day (kind_on day)
Lines day (suc n) text =
    (above : List ℕ) × (row : Row) × Lines day n above × (row.period.0 ≡ suc n) × RowOf day row × (text ≡ above ++ (row_text row ++ codes "\n"))

-- the table of a day: a line for each of its periods
abbrev pub Table : Date → List ℕ → Type 0
Table day text = Lines day (periods_of (kind_on day)) text
