-- What is made of a delivery.
use Rattle.std.specs.Prelude.{◌≡◌, ℕ, ◌<◌, ◌⊎◌, Ok, Err, Result}
use Rattle.market.specs.declared.refusal.Refusal.{Refusal}
use Rattle.market.specs.Lowest.{Lowest, turned_down}
use Rattle.readings.specs.declared.reading.Reading.{Reading}
use Rattle.readings.specs.declared.delivery.Delivery.{Delivery}
use Rattle.qualities.specs.Quality.{IsZero, number_of}
use Rattle.readings.specs.Limits.{latest_stamp, largest_volume}

-- the faults of a delivery, by number:
-- 9, its stamp is outside its limits or there is no such quality;
-- 10, a zero quality comes with a volume;
-- 11, its volume is above the limit that is given, or above the largest there is
abbrev pub DeliveryFault : Delivery → ℕ → ℕ → Type 0
DeliveryFault d limit n =
    ((n ≡ 9) × ((d.stamp < 1) ⊎ (latest_stamp < d.stamp) ⊎ (34 < d.quality)))
    ⊎ ((n ≡ 10) × IsZero d.quality × (0 < d.volume))
    ⊎ ((n ≡ 11) × ((limit < d.volume) ⊎ (largest_volume < d.volume)))

-- the reading has the numbers of the delivery
abbrev pub Reads : Delivery → Reading → Type 0
Reads d r = (r.stamp ≡ d.stamp) × (r.volume ≡ d.volume) × (number_of r.quality ≡ d.quality)

abbrev pub WhenOk : Delivery → Result Reading Refusal → Type 0
WhenOk d (Ok r) = Reads d r
WhenOk d (Err e) = Unit {0}

-- a delivery is turned down by its lowest fault, and with no fault it is the reading of its numbers
pub record Accepted (d : Delivery) (limit : ℕ) (r : Result Reading Refusal) : Type 0 where
  pub judged : Lowest (DeliveryFault d limit) (turned_down r)
  pub reading : WhenOk d r
