-- The reading of three numbers, as a function.
use Rattle.std.specs.Prelude.{◌≡◌, ℕ, Bool, true, false, ◌&&◌, ◌||◌, Some, None, Option, ◌==◌, nat_le, refl}
use Rattle.std.proofs.Common.{⊎_elim, arith}
use Rattle.std.proofs.lemmas.Bool.{and_parts, or_cases, leb-true, eqb-true}
use Rattle.qualities.specs.declared.quality.Quality.{Quality}
use Rattle.readings.specs.declared.reading.Reading.{Reading}
use Rattle.qualities.specs.Quality.{IsZero, number_of, quality_of}
use Rattle.readings.specs.Limits.{latest_stamp, largest_volume}

-- whether a stamp keeps its limits
abbrev pub stamp_fits : ℕ → Bool
stamp_fits s = nat_le 1 s && nat_le s latest_stamp

-- whether a volume keeps its limit, and is 0 with a zero quality
abbrev pub volume_fits : ℕ → Quality → Bool
volume_fits v q = nat_le v largest_volume && (nat_le (number_of q) 30 || v == 0)

-- whether a stamp, a volume and a quality keep the limits of a reading
abbrev pub keeps_limits : ℕ → ℕ → Quality → Bool
keeps_limits s v q = stamp_fits s && volume_fits v q

pub empty_if_zero : (v : ℕ) (q : Quality) → volume_fits v q ≡ true → IsZero (number_of q) → v ≡ 0
empty_if_zero v q e h =
    ⊎_elim (λ l. absurd (omega (arith, leb-true (number_of q) 30 l))) (λ z. eqb-true v 0 z)
    (or_cases (nat_le (number_of q) 30) (v == 0) (and_parts (nat_le v largest_volume) (nat_le (number_of q) 30 || v == 0) e).1)

-- the reading that they make where the test b says that they keep the limits
abbrev pub reading_by : (s v : ℕ) (q : Quality) (b : Bool) → keeps_limits s v q ≡ b → Option Reading
reading_by s v q true e =
    let parts = and_parts (stamp_fits s) (volume_fits v q) e in
    let stamps = and_parts (nat_le 1 s) (nat_le s latest_stamp) parts.0 in
    Some (record {
      stamp = s;
      volume = v;
      quality = q;
      stamped = (leb-true 1 s stamps.0, leb-true s latest_stamp stamps.1);
      bounded = leb-true v largest_volume (and_parts (nat_le v largest_volume) (nat_le (number_of q) 30 || v == 0) parts.1).0;
      zero = empty_if_zero v q parts.1;
    })
reading_by s v q false e = None

-- the same with a quality that there may not be
abbrev pub reading_with : ℕ → ℕ → Option Quality → Option Reading
reading_with s v None = None
reading_with s v (Some q) = reading_by s v q (keeps_limits s v q) refl

-- the reading of a stamp, a volume and a quality number, or none where they make none
unfoldable pub reading_of : ℕ → ℕ → ℕ → Option Reading
reading_of s v n = reading_with s v (quality_of n)
