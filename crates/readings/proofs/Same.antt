-- When two readings are the same.
use Rattle.std.proofs.Common.{◌≡◌, ◌≤◌}
use mathlib.Core.HLevel.{is_prop→PathP}
use denote.Struct.Props.{props}
use Rattle.readings.specs.declared.reading.Reading.{Reading}
use Rattle.qualities.specs.Quality.{IsZero, number_of}
use Rattle.readings.specs.Limits.{latest_stamp, largest_volume}

-- readings of the same numbers are the same
pub same_reading : (a b : Reading) → a.stamp ≡ b.stamp → a.volume ≡ b.volume → a.quality ≡ b.quality → a ≡ b
same_reading a b p q k = λ i. record {
  stamp = p i;
  volume = q i;
  quality = k i;
  stamped = is_prop→PathP (λ j. (1 ≤ p j) × (p j ≤ latest_stamp)) (λ j. hlevel props) a.stamped b.stamped i;
  bounded = is_prop→PathP (λ j. q j ≤ largest_volume) (λ j. hlevel props) a.bounded b.bounded i;
  zero = is_prop→PathP (λ j. IsZero (number_of (k j)) → q j ≡ 0) (λ j. hlevel props) a.zero b.zero i;
}
