-- The faults of one meter's record in one period.
use Rattle.std.specs.Prelude.{◌≡◌, ℕ, ◌<◌, ◌⊎◌, List, length, Some, None, Ok, Err, Option, Result}
use Rattle.market.specs.declared.refusal.Refusal.{Refusal}
use Rattle.readings.specs.declared.reading.Reading.{Reading}
use Rattle.meters.specs.declared.meter.Meter.{Meter}
use Rattle.meters.specs.declared.row.MeterRow.{MeterRow}
use Rattle.meters.specs.declared.row.Quantity.TheVariants.{Import}
use Rattle.meters.specs.Class.{class_at}
use Rattle.meters.specs.Lawful.{Lawful}
use Rattle.stores.specs.Grid.{Grid}
use Rattle.rules.specs.Joined.{Among}
use Rattle.rules.specs.declared.state.State.{State}
use Rattle.rules.specs.declared.revision.Revision.{Revision}
use Rattle.rules.specs.declared.revision.Revision.TheVariants.{Factor, Shape}
use Rattle.rules.specs.declared.state.State.TheVariants.{Settled}
use Rattle.rules.specs.Tables.{factor_of, shape_of, row_of}

-- a stored reading that has no class at the meter, whether or not it would be used
abbrev pub Unclassed : MeterRow → Option Reading → Type 0
Unclassed row None = ⊥
Unclassed row (Some r) = class_at row r.quality ≡ None

-- an entry of a table that is above its limit
abbrev pub Above : ℕ → Option ℕ → Type 0
Above limit None = ⊥
Above limit (Some v) = limit < v

-- an entry that is blank
abbrev pub Blank : Option ℕ → Type 0
Blank None = Unit {0}
Blank (Some v) = ⊥

-- the faults of a factor and a shape, by number: 6, the factor, or the shape of an import meter, is above its limit; 7, the factor is
-- blank; 8, the shape of an import meter is blank
abbrev pub TableFault : MeterRow → Option ℕ → Option ℕ → ℕ → Type 0
TableFault row factor shape n =
    ((n ≡ 6) × (Above 9999 factor ⊎ ((row.quantity ≡ Import) × Above 1000000000 shape)))
    ⊎ ((n ≡ 7) × Blank factor)
    ⊎ ((n ≡ 8) × (row.quantity ≡ Import) × Blank shape)

-- those of the factor of the meter's loss class and the shape of its shape class in a period
abbrev pub TablesFault : List (Option ℕ) → List (Option ℕ) → MeterRow → ℕ → ℕ → Type 0
TablesFault factors shapes row p n = TableFault row (factor_of factors row.loss_class p) (shape_of shapes row.shape_class p) n

-- 5, the reading that is stored for meter m in period p has no class by the record
abbrev pub ReadingFault : Grid → MeterRow → ℕ → ℕ → ℕ → Type 0
ReadingFault grid row m p n = (n ≡ 5) × Unclassed row (grid m p)

-- both
abbrev pub PlaceFault : Grid → List (Option ℕ) → List (Option ℕ) → MeterRow → ℕ → ℕ → ℕ → Type 0
PlaceFault grid factors shapes row m p n = ReadingFault grid row m p n ⊎ TablesFault factors shapes row p n

-- 4, the record is unlawful
abbrev pub LawFault : MeterRow → ℕ → Type 0
LawFault row n = (n ≡ 4) × (Lawful row → ⊥)

-- the faults of a record over all periods: 4, and those of its meter in each period
abbrev pub WholeFault : Grid → List (Option ℕ) → List (Option ℕ) → ℕ → MeterRow → ℕ → ℕ → Type 0
WholeFault grid factors shapes periods row m n = LawFault row n ⊎ Among periods (PlaceFault grid factors shapes row m) n

-- the faults of a record and of what is stored for its meter over all periods
abbrev pub StoredFault : Grid → ℕ → MeterRow → ℕ → ℕ → Type 0
StoredFault grid periods row m n = LawFault row n ⊎ Among periods (ReadingFault grid row m) n

-- the faults of a record in one period
abbrev pub RowFault : Grid → List (Option ℕ) → List (Option ℕ) → ℕ → MeterRow → ℕ → ℕ → Type 0
RowFault grid factors shapes p row m n = LawFault row n ⊎ PlaceFault grid factors shapes row m p n

-- the faults of one record that a delivery reads: 4, and on a settled day those of its meter in the period
abbrev pub OneFault : State → Grid → List (Option ℕ) → List (Option ℕ) → MeterRow → ℕ → ℕ → ℕ → Type 0
OneFault state grid factors shapes row m p n = LawFault row n ⊎ ((state ≡ Settled) × PlaceFault grid factors shapes row m p n)

-- a factor or a shape that is given is above its limit
abbrev pub RevisedAbove : Revision → Type 0
RevisedAbove (Factor k f) = 9999 < f
RevisedAbove (Shape k v) = 1000000000 < v

-- its fault: 6
abbrev pub GivenAbove : Revision → ℕ → Type 0
GivenAbove revision n = (n ≡ 6) × RevisedAbove revision

-- the faults of setting a factor or a shape in a period: on a settled day those of all records in it; and that of what is given
abbrev pub RevisionFault : State → Grid → List (Option ℕ) → List (Option ℕ) → List MeterRow → ℕ → Revision → ℕ → Type 0
RevisionFault state grid factors shapes rows p revision n =
    ((state ≡ Settled) × Among (length rows) (λ m. RowFault grid factors shapes p (row_of rows m) m) n) ⊎ GivenAbove revision n

-- the meter of the record
abbrev pub MeterOf : MeterRow → Result Meter Refusal → Type 0
MeterOf row (Ok meter) = meter.row ≡ row
MeterOf row (Err e) = Unit {0}
