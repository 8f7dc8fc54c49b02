-- The tables of factors and shapes, and the list of meter records.
use Rattle.std.specs.Prelude.{◌≡◌, ℕ, ◌+◌, ◌-◌, ◌*◌, ◌<◌, ◌≤◌, cond, ◌&&◌, List, length, Some, None, Ok, Err, Option, Result, nat_le, slice_index_or, slice_set}
use Rattle.market.specs.declared.refusal.Refusal.{Refusal}
use Rattle.market.specs.Refusal.{number_of}
use Rattle.meters.specs.declared.row.MeterRow.{MeterRow}
use Rattle.meters.specs.declared.row.Segment.TheVariants.{Smart}
use Rattle.meters.specs.declared.row.Quantity.TheVariants.{Import}
use Rattle.meters.specs.declared.row.Connection.TheVariants.{WholeCurrent}
use Rattle.meters.specs.declared.row.Status.TheVariants.{Energised}

-- where the entry of class k in period p lies, in a table of so many classes; both are counted from 1
abbrev pub entry_cell : ℕ → ℕ → ℕ → ℕ
entry_cell classes k p = (p - 1) * classes + (k - 1)

-- that cell, if there are such a class and period
abbrev pub cell_in : ℕ → ℕ → ℕ → Option ℕ
cell_in classes k p = cond (nat_le 1 k && (nat_le k classes && nat_le 1 p)) (Some (entry_cell classes k p)) None

-- that entry: none where it is blank, or where there is no such class or period
abbrev pub entry_in : {X : Type 0} → ℕ → List (Option X) → ℕ → ℕ → Option X
entry_in classes table k p = cond (nat_le 1 k && (nat_le k classes && nat_le 1 p)) (slice_index_or table (entry_cell classes k p) None) None

-- there is such an entry in a table
abbrev pub HasEntry : {X : Type 0} → ℕ → List (Option X) → ℕ → ℕ → Type 0
HasEntry classes table k p = (1 ≤ k) × (k ≤ classes) × (1 ≤ p) × (entry_cell classes k p < length table)

-- the entry is set and no other; or there is none, which gets 3, and nothing is changed
abbrev pub EntrySet : {X : Type 0} → ℕ → List (Option X) → ℕ → ℕ → X → List (Option X) → Result (Unit {0}) Refusal → Type 0
EntrySet classes table k p v next (Ok done) = HasEntry classes table k p × (next ≡ slice_set table (entry_cell classes k p) (Some v))
EntrySet classes table k p v next (Err e) = (HasEntry classes table k p → ⊥) × (number_of e ≡ 3) × (next ≡ table)

-- the line loss factor of a loss class in a period, in thousandths
abbrev pub factor_of : List (Option ℕ) → ℕ → ℕ → Option ℕ
factor_of factors k p = entry_in 40 factors k p

-- the load shape of a shape class in a period, in Wh
abbrev pub shape_of : List (Option ℕ) → ℕ → ℕ → Option ℕ
shape_of shapes k p = entry_in 32 shapes k p

-- the record of no meter, which is unlawful
abbrev pub no_row : MeterRow
no_row = record {
  mpan = 0;
  segment = Smart;
  quantity = Import;
  connection = WholeCurrent;
  status = Energised;
  shape_class = 0;
  loss_class = 0;
  base_unit = 0;
  additional_unit = None;
  tariff = None;
  supplier = 0;
}

-- the record of meter m, counted from 1
abbrev pub row_of : List MeterRow → ℕ → MeterRow
row_of rows m = slice_index_or rows (m - 1) no_row

-- the records with that of meter m replaced
abbrev pub with_row : List MeterRow → ℕ → MeterRow → List MeterRow
with_row rows m row = slice_set rows (m - 1) row
