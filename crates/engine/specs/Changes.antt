-- The totals of a report after a change of a record, a factor or a shape.
use Rattle.std.specs.Prelude.{◌≡◌, ℕ, ◌-◌, ◌*◌, ◌≤◌, ◌⊎◌, List, length, Ok, Err, Option, Result, ◌≢◌, slice_set}
use Rattle.market.specs.declared.refusal.Refusal.{Refusal}
use Rattle.market.specs.Refusal.{number_of}
use Rattle.meters.specs.declared.row.MeterRow.{MeterRow}
use Rattle.stores.specs.Grid.{Grid}
use Rattle.amounts.specs.Laws.{Algebra}
use Rattle.totals.specs.Rules.{Rules}
use Rattle.totals.specs.Table.{HasTotal, total_at}
use Rattle.totals.specs.Holds.{Holds, InPeriod, meters_below}
use Rattle.rules.specs.Tables.{row_of}
use Rattle.rules.specs.declared.revision.Revision.{Revision}
use Rattle.engine.specs.Entries.{entries_of}
use Rattle.engine.specs.Revision.{Reaches, factors_after, shapes_after}

-- in period p at most two totals differ
abbrev pub TwoIn : {M : Type 0} → Algebra M → Rules M → ℕ → ℕ → List M → List M → Type 0
TwoIn a rules periods p cells next =
    (x : ℕ) × ((y : ℕ) × ((q : ℕ) → HasTotal periods rules.places p q →
    (total_at a.zero rules.places next p q ≡ total_at a.zero rules.places cells p q) ⊎ ((q ≡ x) ⊎ (q ≡ y))))

-- in each period at most two
abbrev pub TwoEach : {M : Type 0} → Algebra M → Rules M → ℕ → List M → List M → Type 0
TwoEach a rules periods cells next = (p : ℕ) → TwoIn a rules periods p cells next

-- totals of what counts by some records, among which the one of meter m is the old one, are totals of what counts with the new one in its place
abbrev pub AmendRight : {M : Type 0} → Algebra M → Rules M → ℕ → Grid → List (Option ℕ) → List (Option ℕ) → ℕ → MeterRow → MeterRow → List M → List M → Type 0
AmendRight a rules periods grid factors shapes m old new cells next =
    (rows : List MeterRow) → 1 ≤ m → m ≤ length rows → row_of rows m ≡ old →
    Holds a rules (entries_of grid rows factors shapes) (length rows) periods cells →
    Holds a rules (entries_of grid (slice_set rows (m - 1) new) factors shapes) (length rows) periods next

-- the totals follow an amendment; or there is not one for each period and place, which gets 1, and nothing is changed
abbrev pub Amended : {M : Type 0} → Algebra M → Rules M → ℕ → Grid → List (Option ℕ) → List (Option ℕ) → ℕ → MeterRow → MeterRow → List M → List M → Result (Unit {0}) Refusal → Type 0
Amended a rules periods grid factors shapes m old new cells next (Ok done) =
    (length cells ≡ periods * rules.places) × AmendRight a rules periods grid factors shapes m old new cells next × TwoEach a rules periods cells next
Amended a rules periods grid factors shapes m old new cells next (Err e) =
    (length cells ≢ periods * rules.places) × (number_of e ≡ 1) × (next ≡ cells)

-- totals of what counts by the tables before a change of a factor or a shape are totals of what counts by those after it
abbrev pub ReviseRight : {M : Type 0} → Algebra M → Rules M → ℕ → Grid → List MeterRow → List (Option ℕ) → List (Option ℕ) → Revision → ℕ → List M → List M → Type 0
ReviseRight a rules periods grid rows factors shapes revision p cells next =
    Reaches revision factors shapes p →
    Holds a rules (entries_of grid rows factors shapes) (length rows) periods cells →
    Holds a rules (entries_of grid rows (factors_after revision factors p) (shapes_after revision shapes p)) (length rows) periods next

-- the totals of the period follow the change and no others move; or there is not one for each period and place, which gets 1, and nothing is
-- changed
abbrev pub Revised : {M : Type 0} → Algebra M → Rules M → ℕ → Grid → List MeterRow → List (Option ℕ) → List (Option ℕ) → Revision → ℕ → List M → List M → Result (Unit {0}) Refusal → Type 0
Revised a rules periods grid rows factors shapes revision p cells next (Ok done) =
    (length cells ≡ periods * rules.places) × ReviseRight a rules periods grid rows factors shapes revision p cells next × InPeriod a rules periods p cells next
Revised a rules periods grid rows factors shapes revision p cells next (Err e) =
    (length cells ≢ periods * rules.places) × (number_of e ≡ 1) × (next ≡ cells)

-- the same, followed from meter i to meter j: those below have followed already
pub record RevisedFrom {M : Type 0} (a : Algebra M) (rules : Rules M) (periods : ℕ) (grid : Grid) (rows : List MeterRow) (factors shapes : List (Option ℕ)) (revision : Revision) (p i j : ℕ) (cells next : List M) : Type 0 where
  pub follows : Reaches revision factors shapes p →
      Holds a rules (meters_below (entries_of grid rows factors shapes) (entries_of grid rows (factors_after revision factors p) (shapes_after revision shapes p)) i) (length rows) periods cells →
      Holds a rules (meters_below (entries_of grid rows factors shapes) (entries_of grid rows (factors_after revision factors p) (shapes_after revision shapes p)) j) (length rows) periods next
  pub elsewhere : InPeriod a rules periods p cells next
