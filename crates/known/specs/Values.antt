-- Values that are known from published documents, worked out there or by hand.
use Rattle.std.specs.Prelude.{◌≡◌, ℕ, Some, None}
use Rattle.market.specs.declared.clock.UtcDate.TheVariants.{DateBefore}
use Rattle.market.specs.Clock.{periods_of, SameTime}
use Rattle.market.specs.Calendar.{Exists, kind_of}
use Rattle.qualities.specs.declared.quality.Quality.TheVariants.{A, E8}
use Rattle.readings.specs.declared.reading.Reading.{Reading}
use Rattle.readings.specs.Order.{Ahead}
use Rattle.meters.specs.declared.row.Segment.TheVariants.{Smart}
use Rattle.meters.specs.declared.row.Quantity.TheVariants.{Import}
use Rattle.meters.specs.declared.row.Status.{Status}
use Rattle.meters.specs.declared.row.Status.TheVariants.{Energised, Deenergised}
use Rattle.meters.specs.declared.row.MeterRow.{MeterRow}
use Rattle.meters.specs.Lawful.{Lawful}
use Rattle.meters.specs.Class.{class_at}
use Rattle.meters.specs.Used.{used, used_of}

-- the date exists and has n Settlement Periods
abbrev pub HasPeriods : ℕ → ℕ → ℕ → ℕ → Type 0
HasPeriods y m d n = Exists y m d × (periods_of (kind_of y m d) ≡ n)

-- the date exists and its first Settlement Period is UTC period u of the date before
abbrev pub StartsBefore : ℕ → ℕ → ℕ → ℕ → Type 0
StartsBefore y m d u = Exists y m d × SameTime (kind_of y m d) 1 DateBefore u

-- a lawful smart import meter, energised and with nothing stored, uses the shape, in the class
abbrev pub UsesShapeIn : ℕ → ℕ → Type 0
UsesShapeIn shape class =
    (m : MeterRow) → Lawful m → m.segment ≡ Smart → m.quantity ≡ Import → m.status ≡ Energised →
    (used_of m None shape ≡ Some (used shape E8)) × (class_at m E8 ≡ Some class)

-- of two readings with the same stamp the larger stands before the smaller
abbrev pub LargerStands : ℕ → ℕ → ℕ → Type 0
LargerStands stamp small large =
    (a b : Reading) → a.stamp ≡ stamp → b.stamp ≡ stamp → a.volume ≡ small → b.volume ≡ large → Ahead b a

-- a measured reading of 0 Wh at a de-energised meter is used nowhere
abbrev pub EmptyIsUnused : Type 0
EmptyIsUnused =
    (m : MeterRow) (r : Reading) (shape : ℕ) → m.status ≡ Deenergised → r.volume ≡ 0 → r.quality ≡ A → used_of m (Some r) shape ≡ None

-- the record of a lawful smart import meter of this status
abbrev pub SmartImport : Status → MeterRow → Type 0
SmartImport status m = Lawful m × (m.segment ≡ Smart) × (m.quantity ≡ Import) × (m.status ≡ status)

pub record KnownValues : Type 0 where
  -- the day in 2025 on which the clocks went forward has 46 periods
  pub spring : HasPeriods 2025 3 30 46
  -- the day in 2025 on which they went back has 50
  pub autumn : HasPeriods 2025 10 26 50
  -- on the day before that, period 1 is UTC period 47 of the date before
  pub summer : StartsBefore 2025 10 25 47
  -- stamps 90 and 90, volumes 400 and 500: 500 stands
  pub foremost : LargerStands 90 400 500
  -- smart import, energised, nothing stored, shape 250: class 114
  pub smart_default : UsesShapeIn 250 114
  -- de-energised, A, 0 Wh: used nowhere
  pub unused : EmptyIsUnused
