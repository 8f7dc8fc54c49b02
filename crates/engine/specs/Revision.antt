-- A change of one factor or one shape in a period.
use Rattle.std.specs.Prelude.{◌≡◌, ℕ, ◌*◌, ◌≤◌, List, length, Some, Option, slice_set}
use Rattle.readings.specs.declared.reading.Reading.{Reading}
use Rattle.meters.specs.declared.row.MeterRow.{MeterRow}
use Rattle.totals.specs.declared.entry.Entry.{Entry}
use Rattle.rules.specs.Tables.{entry_cell, factor_of, shape_of}
use Rattle.rules.specs.declared.revision.Revision.{Revision}
use Rattle.rules.specs.declared.revision.Revision.TheVariants.{Factor, Shape}
use Rattle.engine.specs.Entries.{entry_with}

-- a record is of the class that is changed
abbrev pub Concerns : Revision → MeterRow → Type 0
Concerns (Factor k f) row = row.loss_class ≡ k
Concerns (Shape k v) row = row.shape_class ≡ k

-- a table with the entry of class k in period p set to v
abbrev pub with_entry : ℕ → List (Option ℕ) → ℕ → ℕ → ℕ → List (Option ℕ)
with_entry classes table k p v = slice_set table (entry_cell classes k p) (Some v)

-- the tables after the change
abbrev pub factors_after : Revision → List (Option ℕ) → ℕ → List (Option ℕ)
factors_after (Factor k f) factors p = with_entry 40 factors k p f
factors_after (Shape k v) factors p = factors

abbrev pub shapes_after : Revision → List (Option ℕ) → ℕ → List (Option ℕ)
shapes_after (Factor k f) shapes p = shapes
shapes_after (Shape k v) shapes p = with_entry 32 shapes k p v

-- what counts then for a record of the class
abbrev pub revised_entry : Revision → List (Option ℕ) → List (Option ℕ) → MeterRow → Option Reading → ℕ → Entry
revised_entry (Factor k f) factors shapes row stored p = entry_with row stored (shape_of shapes row.shape_class p) (Some f)
revised_entry (Shape k v) factors shapes row stored p = entry_with row stored (Some v) (factor_of factors row.loss_class p)

-- the class exists, and the table reaches to period p
abbrev pub Reaches : Revision → List (Option ℕ) → List (Option ℕ) → ℕ → Type 0
Reaches (Factor k f) factors shapes p = (1 ≤ k) × (k ≤ 40) × (1 ≤ p) × (40 * p ≤ length factors)
Reaches (Shape k v) factors shapes p = (1 ≤ k) × (k ≤ 32) × (1 ≤ p) × (32 * p ≤ length shapes)
