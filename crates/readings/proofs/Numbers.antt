-- The reading of three numbers is the one that a delivery of them makes.
use Rattle.std.proofs.Common.{◌≡◌, ℕ, Bool, true, false, Some, None, Ok, Err, Option, Result, sym, refl, ap, ◌∙◌, arith}
use Rattle.std.specs.Result.{result_ok}
use Rattle.std.proofs.lemmas.Bool.Decides.{nat_tests}
use Rattle.market.specs.declared.refusal.Refusal.{Refusal}
use Rattle.market.specs.Refusal.{number_of as refusal_number}
use Rattle.qualities.specs.declared.quality.Quality.{Quality}
use Rattle.readings.specs.declared.reading.Reading.{Reading}
use Rattle.readings.specs.declared.delivery.Delivery.{Delivery}
use Rattle.qualities.specs.Quality.{number_of, quality_of}
use Rattle.readings.specs.Limits.{largest_volume}
use Rattle.readings.specs.Delivery.{DeliveryFault, Accepted}
use Rattle.readings.specs.Numbers.{keeps_limits, reading_by, reading_with, reading_of}
use Rattle.qualities.proofs.Same.{quality_of_number, number_of_quality}
use Rattle.readings.proofs.Same.{same_reading}

keeps : (r : Reading) → keeps_limits r.stamp r.volume r.quality ≡ true
keeps r = let a = r.stamped in let b = r.bounded in let z = r.zero in grind (arith, nat_tests)

by_true : (r : Reading) (b : Bool) (e : keeps_limits r.stamp r.volume r.quality ≡ b) → b ≡ true →
    reading_by r.stamp r.volume r.quality b e ≡ Some r
by_true r true e t = ap Some (same_reading _ r refl refl refl)
by_true r false e t = cc

-- a reading is the reading of its numbers
pub reading_back : (r : Reading) → reading_of r.stamp r.volume (number_of r.quality) ≡ Some r
unfolding reading_of
reading_back r =
    ap (reading_with r.stamp r.volume) (quality_of_number r.quality)
    ∙ by_true r (keeps_limits r.stamp r.volume r.quality) refl (keeps r)

by_false : (s v : ℕ) (q : Quality) (b : Bool) (e : keeps_limits s v q ≡ b) → b ≡ false → reading_by s v q b e ≡ None
by_false s v q true e t = cc
by_false s v q false e t = refl

-- numbers of which a delivery has a fault make no reading
none_of : (d : Delivery) (o : Option Quality) (n : ℕ) → quality_of d.quality ≡ o → DeliveryFault d largest_volume n → reading_with d.stamp d.volume o ≡ None
none_of d None n e h = refl
none_of d (Some q) n e h =
    let number = number_of_quality d.quality q e in
    by_false d.stamp d.volume q (keeps_limits d.stamp d.volume q) refl (grind (arith, nat_tests))

-- a delivery at the largest limit makes the reading of its numbers, or none does
pub accepted_is : (d : Delivery) (r : Result Reading Refusal) → Accepted d largest_volume r → result_ok r ≡ reading_of d.stamp d.volume d.quality
unfolding reading_of
accepted_is d (Ok x) h = sym (reading_back x) ∙ rw (h.reading.0, h.reading.1, h.reading.2)
accepted_is d (Err e) h = sym (none_of d (quality_of d.quality) (refusal_number e) refl h.judged.0)

no_stamp_with : (v : ℕ) (o : Option Quality) → reading_with 0 v o ≡ None
no_stamp_with v None = refl
no_stamp_with v (Some q) = by_false 0 v q (keeps_limits 0 v q) refl refl

-- there is no reading of stamp 0
pub no_stamp_none : (v n : ℕ) → reading_of 0 v n ≡ None
unfolding reading_of
no_stamp_none v n = no_stamp_with v (quality_of n)
