-- The calls on a day by their numbers, whichever clock their periods are of.
use Rattle.std.specs.Prelude.{◌≡◌, ℕ}
use Rattle.readings.specs.declared.reading.Reading.{Reading}
use Rattle.meters.specs.declared.row.MeterRow.{MeterRow}
use Rattle.readings.specs.declared.delivery.Delivery.{Delivery}
use Rattle.readings.specs.Delivery.{Reads}
use Rattle.rules.specs.declared.state.Event as event
use Rattle.rules.specs.declared.call.Call.{Call}
use Rattle.rules.specs.declared.call.Call.TheVariants as call
use Rattle.rules.specs.declared.revision.Revision.{Revision}
use Rattle.rules.specs.declared.revision.Revision.TheVariants as revision

-- which call was made, and the meter, class, period, record, reading, factor or shape given with it
pub data Asked : Type 0 where
  settle : Asked
  deliver : ℕ → ℕ → Delivery → Asked
  amend : ℕ → MeterRow → Asked
  factor : ℕ → ℕ → ℕ → Asked
  shape : ℕ → ℕ → ℕ → Asked
  close : Asked

-- setting a factor or a shape in a period
abbrev pub revised : ℕ → Revision → Asked
revised p (revision.Factor k f) = factor k p f
revised p (revision.Shape k v) = shape k p v

-- a call by the numbers of its periods
abbrev pub asked : {P : Type 0} → (P → ℕ) → Call P Delivery → Asked
asked number call.Settle = settle
asked number (call.Deliver m p d) = deliver m (number p) d
asked number (call.Amend m row) = amend m row
asked number (call.Revise p r) = revised (number p) r
asked number call.Close = close

-- what a call does to the state of its day
abbrev pub event_of : Asked → event.Event
event_of settle = event.TheVariants.Settle
event_of (deliver m p d) = event.TheVariants.Deliver
event_of (amend m row) = event.TheVariants.Amend
event_of (factor k p f) = event.TheVariants.Factor
event_of (shape k p v) = event.TheVariants.Shape
event_of close = event.TheVariants.Close

-- what is done for a call: the same, with a reading that exists
pub data Deed : Type 0 where
  settles : Deed
  delivers : ℕ → ℕ → Reading → Deed
  amends : ℕ → MeterRow → Deed
  refactors : ℕ → ℕ → ℕ → Deed
  reshapes : ℕ → ℕ → ℕ → Deed
  closes : Deed

abbrev pub revises : ℕ → Revision → Deed
revises p (revision.Factor k f) = refactors k p f
revises p (revision.Shape k v) = reshapes k p v

abbrev pub deed_of : {P : Type 0} → (P → ℕ) → Call P Reading → Deed
deed_of number call.Settle = settles
deed_of number (call.Deliver m p r) = delivers m (number p) r
deed_of number (call.Amend m row) = amends m row
deed_of number (call.Revise p r) = revises (number p) r
deed_of number call.Close = closes

-- what is done is what was asked: the same call with what was given, and the reading of the numbers given
abbrev pub Matches : Asked → Deed → Type 0
Matches settle settles = Unit {0}
Matches (deliver m p d) (delivers i j r) = (i ≡ m) × (j ≡ p) × Reads d r
Matches (amend m row) (amends i new) = (i ≡ m) × (new ≡ row)
Matches (factor k p f) (refactors i j g) = (i ≡ k) × (j ≡ p) × (g ≡ f)
Matches (shape k p v) (reshapes i j u) = (i ≡ k) × (j ≡ p) × (u ≡ v)
Matches close closes = Unit {0}
Matches settle (delivers i j r) = ⊥
Matches settle (amends i new) = ⊥
Matches settle (refactors i j g) = ⊥
Matches settle (reshapes i j u) = ⊥
Matches settle closes = ⊥
Matches (deliver m p d) settles = ⊥
Matches (deliver m p d) (amends i new) = ⊥
Matches (deliver m p d) (refactors i j g) = ⊥
Matches (deliver m p d) (reshapes i j u) = ⊥
Matches (deliver m p d) closes = ⊥
Matches (amend m row) settles = ⊥
Matches (amend m row) (delivers i j r) = ⊥
Matches (amend m row) (refactors i j g) = ⊥
Matches (amend m row) (reshapes i j u) = ⊥
Matches (amend m row) closes = ⊥
Matches (factor k p f) settles = ⊥
Matches (factor k p f) (delivers i j r) = ⊥
Matches (factor k p f) (amends i new) = ⊥
Matches (factor k p f) (reshapes i j u) = ⊥
Matches (factor k p f) closes = ⊥
Matches (shape k p v) settles = ⊥
Matches (shape k p v) (delivers i j r) = ⊥
Matches (shape k p v) (amends i new) = ⊥
Matches (shape k p v) (refactors i j g) = ⊥
Matches (shape k p v) closes = ⊥
Matches close settles = ⊥
Matches close (delivers i j r) = ⊥
Matches close (amends i new) = ⊥
Matches close (refactors i j g) = ⊥
Matches close (reshapes i j u) = ⊥
