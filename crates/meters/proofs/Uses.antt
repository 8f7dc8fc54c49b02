-- The laws of used readings.
use Rattle.std.proofs.Common.{◌≡◌, ℕ, Bool, true, false, cond, not, ◌||◌, eqb, is_some, Some, None, sym, refl, ap, subst}
use Rattle.std.proofs.lemmas.Option.{cond_some}
use Rattle.readings.specs.declared.reading.Reading.{Reading}
use Rattle.meters.specs.declared.row.Segment.{Segment}
use Rattle.meters.specs.declared.row.Segment.TheVariants.{Smart, Advanced, Unmetered}
use Rattle.meters.specs.declared.row.Quantity.{Quantity}
use Rattle.meters.specs.declared.row.Quantity.TheVariants.{Import, Export}
use Rattle.meters.specs.declared.row.Connection.{Connection}
use Rattle.meters.specs.declared.row.MeterRow.{MeterRow}
use Rattle.meters.specs.declared.used.UsedReading.{UsedReading}
use Rattle.meters.specs.Lawful.{connects, Lawful}
use Rattle.meters.specs.Class.{table, class_in, class_of, class_at}
use Rattle.meters.specs.Used.{is_energised, used, default_of, used_of, UsedLaws}

-- the default of each segment and quantity has a class
in_table : (s : Segment) (x : Quantity) (c : Connection) (shape : ℕ) → is_some (class_in table s x c (default_of s x shape).quality) ≡ true
in_table Smart Import c shape = refl
in_table Advanced Import c shape = refl
in_table Unmetered Import c shape = refl
in_table Smart Export c shape = refl
in_table Advanced Export c shape = refl
in_table Unmetered Export c shape = refl

-- at every connection that the segment can have
has_class : (s : Segment) (x : Quantity) (c : Connection) (b : Bool) (shape : ℕ) → b ≡ true →
    is_some (cond b (class_in table s x c (default_of s x shape).quality) None) ≡ true
has_class s x c true shape h = in_table s x c shape
has_class s x c false shape h = cc

default_classed : (m : MeterRow) (shape : ℕ) (u : UsedReading) → Lawful m → used_of m None shape ≡ Some u → is_some (class_at m u.quality) ≡ true
unfolding class_at
default_classed m shape u lawful e =
    subst (λ (w : UsedReading). is_some (class_of m.segment m.quantity m.connection w.quality) ≡ true)
    (cond_some (is_energised m.status) (default_of m.segment m.quantity shape) u e).1
    (has_class m.segment m.quantity m.connection (connects m.segment m.connection) shape lawful.connection)

stored_classed : (m : MeterRow) (r : Reading) (shape : ℕ) (u : UsedReading) → used_of m (Some r) shape ≡ Some u →
    (class_at m u.quality ≡ class_at m r.quality) × (u.volume ≡ r.volume)
stored_classed m r shape u e =
    let same = sym (cond_some (is_energised m.status || not (eqb r.volume 0)) (used r.volume r.quality) u e).1 in
    (ap (λ w. class_at m w.quality) same, ap (λ w. w.volume) same)

pub used_laws : UsedLaws
used_laws = record { default_classed = default_classed; stored_classed = stored_classed }
