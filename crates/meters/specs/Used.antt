-- Which reading is used, and which deliveries a meter takes.
use Rattle.std.specs.Prelude.{◌≡◌, ℕ, Bool, true, false, cond, not, ◌||◌, ◌⊎◌, [], ◌∷◌, is_some, Some, None, Ok, Err, Option, Result, ◌==◌}
use Rattle.market.specs.declared.refusal.Refusal.{Refusal}
use Rattle.market.specs.Lowest.{Lowest, turned_down}
use Rattle.qualities.specs.declared.quality.Quality.{Quality}
use Rattle.qualities.specs.declared.quality.Quality.TheVariants.{A, A1, A2, A3, AAE1, AAE2, AAE3, E, E2, E6, E8, EA12, EAE1, ZE1}
use Rattle.readings.specs.declared.reading.Reading.{Reading}
use Rattle.meters.specs.declared.row.Segment.{Segment}
use Rattle.meters.specs.declared.row.Segment.TheVariants.{Smart, Advanced, Unmetered}
use Rattle.meters.specs.declared.row.Quantity.{Quantity}
use Rattle.meters.specs.declared.row.Quantity.TheVariants.{Import, Export}
use Rattle.meters.specs.declared.row.Status.{Status}
use Rattle.meters.specs.declared.row.Status.TheVariants.{Energised, Deenergised}
use Rattle.meters.specs.declared.row.MeterRow.{MeterRow}
use Rattle.meters.specs.declared.used.UsedReading.{UsedReading}
use Rattle.meters.specs.Lawful.{Lawful}
use Rattle.meters.specs.Class.{lists, class_at}

abbrev pub is_energised : Status → Bool
is_energised Energised = true
is_energised Deenergised = false

abbrev pub used : ℕ → Quality → UsedReading
used v q = record { volume = v; quality = q }

-- what an energised meter is taken to have used with nothing stored: on import the shape of its class, on export nothing
abbrev pub default_of : Segment → Quantity → ℕ → UsedReading
default_of Smart Import shape = used shape E8
default_of Advanced Import shape = used shape EA12
default_of Unmetered Import shape = used shape E
default_of Smart Export shape = used 0 ZE1
default_of Advanced Export shape = used 0 EAE1
default_of Unmetered Export shape = used 0 E

-- the used reading of a meter: a stored one if the meter is energised or its volume is not 0; with nothing stored the default, if
-- the meter is energised
abbrev pub used_of : MeterRow → Option Reading → ℕ → Option UsedReading
used_of m (Some r) shape = cond (is_energised m.status || not (r.volume == 0)) (Some (used r.volume r.quality)) None
used_of m None shape = cond (is_energised m.status) (Some (default_of m.segment m.quantity shape)) None

-- what holds of used readings
pub record UsedLaws : Type 0 where
  -- the default of a lawful meter always has a class
  pub default_classed : (m : MeterRow) (shape : ℕ) (u : UsedReading) → Lawful m → used_of m None shape ≡ Some u →
      is_some (class_at m u.quality) ≡ true
  -- a stored reading with a class is used, if at all, with that class and its volume
  pub stored_classed : (m : MeterRow) (r : Reading) (shape : ℕ) (u : UsedReading) → used_of m (Some r) shape ≡ Some u →
      (class_at m u.quality ≡ class_at m r.quality) × (u.volume ≡ r.volume)

-- the qualities that a de-energised meter takes
abbrev pub SuitsDeenergised : Quality → Type 0
SuitsDeenergised q = lists (A ∷ A1 ∷ A2 ∷ A3 ∷ AAE1 ∷ AAE2 ∷ AAE3 ∷ E2 ∷ E6 ∷ []) q ≡ true

-- the faults of a delivery at its meter, by number: 12, a quality that a de-energised meter does not take; 13, no class
abbrev pub AdmissionFault : MeterRow → Quality → ℕ → Type 0
AdmissionFault m q n =
    ((n ≡ 12) × (is_energised m.status ≡ false) × (SuitsDeenergised q → ⊥)) ⊎ ((n ≡ 13) × (class_at m q ≡ None))

abbrev pub Classed : MeterRow → Quality → Result ℕ Refusal → Type 0
Classed m q (Ok class) = class_at m q ≡ Some class
Classed m q (Err e) = Unit {0}

-- a delivery is turned down by its lowest fault, and with no fault its class is told
pub record Admitted (m : MeterRow) (q : Quality) (r : Result ℕ Refusal) : Type 0 where
  pub judged : Lowest (AdmissionFault m q) (turned_down r)
  pub class : Classed m q r
