-- The table of totals.
use Rattle.std.specs.Prelude.{◌≡◌, ℕ, ◌+◌, ◌-◌, ◌*◌, ◌<◌, ◌≤◌, List, length, Some, None, Option, Ok, Err, Result, slice_index_or, slice_set}
use Rattle.std.specs.Borrow.{MutBor}
use Rattle.market.specs.declared.refusal.Refusal.{Refusal}
use Rattle.market.specs.Refusal.{number_of}
use Rattle.totals.specs.declared.totals.Totals.{Totals}
use Rattle.totals.specs.declared.totals.NoTable.{NoTable}

-- there is a total for this period and place; periods are counted from 1 and places from 0
abbrev pub HasTotal : ℕ → ℕ → ℕ → ℕ → Type 0
HasTotal periods places p q = (1 ≤ p) × (p ≤ periods) × (q < places)

-- where it lies
abbrev pub cell_of : ℕ → ℕ → ℕ → ℕ
cell_of places p q = (p - 1) * places + q

-- the total of a period and place
abbrev pub total_at : {M : Type 0} → M → ℕ → List M → ℕ → ℕ → M
total_at zero places cells p q = slice_index_or cells (cell_of places p q) zero

-- a table over the amounts behind a reference, which are as they were; or, where they are no table, those amounts again, with 1
abbrev pub Made : {M : Type 0} → MutBor (List M) → ℕ → ℕ → Result (Totals M) (NoTable M) → Type 0
Made cells periods places (Ok t) = (t.cells ≡ cells) × (t.periods ≡ periods) × (t.places ≡ places)
Made cells periods places (Err e) =
    (e.cells ≡ cells) × (number_of e.refusal ≡ 1) × ((length cells.now ≡ periods * places) × (places ≤ 4096) → ⊥)

-- what a table holds at a period and place
abbrev pub total_in : {M : Type 0} → M → Totals M → ℕ → ℕ → M
total_in zero t p q = total_at zero t.places t.cells.now p q

-- the total of a period and place, or 3 where there is none
abbrev pub Read : {M : Type 0} → M → Totals M → ℕ → ℕ → Result M Refusal → Type 0
Read zero t p q (Ok total) = HasTotal t.periods t.places p q × (total ≡ total_in zero t p q)
Read zero t p q (Err e) = (HasTotal t.periods t.places p q → ⊥) × (number_of e ≡ 3)

-- the same table, whatever its totals are: over the same memory, of the same size
abbrev pub SameTable : {M : Type 0} → Totals M → Totals M → Type 0
SameTable before after = (after.cells.ghost_name ≡ before.cells.ghost_name) × (after.periods ≡ before.periods) × (after.places ≡ before.places)

-- every total is zero
abbrev pub Cleared : {M : Type 0} → M → Totals M → Totals M → Type 0
Cleared zero before after = SameTable before after × ((k : ℕ) → slice_index_or after.cells.now k zero ≡ zero)

-- where the total of a period and place lies, if there is one
abbrev pub Located : {M : Type 0} → Totals M → ℕ → ℕ → Option ℕ → Type 0
Located t p q (Some i) = HasTotal t.periods t.places p q × (i ≡ cell_of t.places p q) × (i < length t.cells.now)
Located t p q None = HasTotal t.periods t.places p q → ⊥

-- one total is changed to something that is made of it, and no other; or there is none, which gets 3, and nothing is changed
abbrev pub ChangedBy : {M : Type 0} → M → (M → M → Type 0) → Totals M → Totals M → ℕ → ℕ → Result (Unit {0}) Refusal → Type 0
ChangedBy {M} zero makes before after p q (Ok done) =
    HasTotal before.periods before.places p q × SameTable before after
    × ((total : M) × makes (total_in zero before p q) total × (after.cells.now ≡ slice_set before.cells.now (cell_of before.places p q) total))
ChangedBy zero makes before after p q (Err e) = (HasTotal before.periods before.places p q → ⊥) × (number_of e ≡ 3) × (after ≡ before)

-- one total is changed and no other; or there is none, which gets 3, and nothing is changed
abbrev pub Changed : {M : Type 0} → M → (M → M) → Totals M → Totals M → ℕ → ℕ → Result (Unit {0}) Refusal → Type 0
Changed zero change before after p q (Ok done) =
    HasTotal before.periods before.places p q × SameTable before after
    × (after.cells.now ≡ slice_set before.cells.now (cell_of before.places p q) (change (total_in zero before p q)))
Changed zero change before after p q (Err e) = (HasTotal before.periods before.places p q → ⊥) × (number_of e ≡ 3) × (after ≡ before)
