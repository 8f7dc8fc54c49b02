-- The totals follow a factor or a shape, and the table has it.
use Rattle.std.proofs.Common.{◌≡◌, ℕ, ◌*◌, List, length, Ok, Err, Option, Result, sym, ap, ◌∙◌, subst}
use Rattle.market.specs.declared.refusal.Refusal.{Refusal}
use Rattle.meters.specs.declared.row.MeterRow.{MeterRow}
use Rattle.stores.specs.Grid.{Grid}
use Rattle.totals.specs.Holds.{InPeriod}
use Rattle.rules.specs.Tables.{HasEntry, EntrySet}
use Rattle.rules.specs.declared.revision.Revision.{Revision}
use Rattle.engine.specs.Changes.{ReviseRight, Revised}
use Rattle.engine.specs.Revision.{with_entry}
use Rattle.settlement.specs.World.{ReportMeaning}

-- amounts of which there is one for each period and place do follow
pub revised_fits : {M : Type 0} (r : ReportMeaning M) (periods : ℕ) (grid : Grid) (rows : List MeterRow) (factors shapes : List (Option ℕ)) (revision : Revision) (q p : ℕ)
    (cells next : List M) (x : Result (Unit {0}) Refusal) → q ≡ p → length cells ≡ periods * r.rules.places →
    Revised r.algebra r.rules periods grid rows factors shapes revision q cells next x →
    ReviseRight r.algebra r.rules periods grid rows factors shapes revision p cells next × InPeriod r.algebra r.rules periods p cells next
revised_fits r periods grid rows factors shapes revision q p cells next (Ok done) e fits h = (
  subst (λ k. ReviseRight r.algebra r.rules periods grid rows factors shapes revision k cells next) e h.1,
  subst (λ k. InPeriod r.algebra r.rules periods k cells next) e h.2,
)
revised_fits r periods grid rows factors shapes revision q p cells next (Err x) e fits h = absurd (h.0 fits)

-- an entry that exists is set
pub entry_set : (classes : ℕ) (table : List (Option ℕ)) (k q p v : ℕ) (next : List (Option ℕ)) (x : Result (Unit {0}) Refusal) → q ≡ p →
    HasEntry classes table k p → EntrySet classes table k q v next x → next ≡ with_entry classes table k p v
entry_set classes table k q p v next (Ok done) e has h = h.1 ∙ ap (λ j. with_entry classes table k j v) e
entry_set classes table k q p v next (Err x) e has h = absurd (h.0 (subst (HasEntry classes table k) (sym e) has))
