use Rattle.std.proofs.Common.{◌≡◌, ℕ, length}
use Rattle.market.specs.Lowest.{turned_down}
use Rattle.rules.specs.declared.state.State.TheVariants.{Settled}
use Rattle.rules.specs.Joined.{Among}
use Rattle.rules.specs.Tables.{row_of}
use Rattle.rules.specs.Places.{RowFault, GivenAbove}
use Rattle.rules.proofs.Lowests.{lowest_same, lowest_or}
use Rattle.rules.proofs.case.Case.check_revision.Goals as goal

pub returns-in-Settled : goal.returns-in-Settled
returns-in-Settled g c =
    let s = c.args.self.now.sources in
    let state = c.args.self.now.state in
    let B : ℕ → Type 0 = Among (length s.rows.now) (λ m. RowFault (g.S.Store.grid s.store.now) s.factors.now s.shapes.now c.args.period (row_of s.rows.now m) m) in
    rw c.earlier.ensures
    (lowest_or (λ n. (state ≡ Settled) × B n) (GivenAbove c.args.revision) (turned_down c.check_period.result) (turned_down c.check.result)
    (lowest_same B (λ n. (state ≡ Settled) × B n) (turned_down c.check_period.result) (λ n y. (c.in-Settled.is, y)) (λ n y. y.1) c.check_period.ensures)
    c.check.ensures)
