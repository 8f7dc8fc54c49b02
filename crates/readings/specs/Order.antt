-- The order of readings.
use Rattle.std.specs.Prelude.{◌≡◌, ◌<◌, ◌⊎◌}
use Rattle.readings.specs.declared.reading.Reading.{Reading}
use Rattle.qualities.specs.Quality.{number_of}

-- a is ahead of b: it has the later stamp; at equal stamps the larger volume; at equal volumes the lower quality number
abbrev pub Ahead : Reading → Reading → Type 0
Ahead a b =
    (b.stamp < a.stamp)
    ⊎ ((a.stamp ≡ b.stamp) × ((b.volume < a.volume)
    ⊎ ((a.volume ≡ b.volume) × (number_of a.quality < number_of b.quality))))

-- it is a total order, so that of any readings one is ahead of all others
pub record TotalOrder : Type 0 where
  pub irreflexive : (a : Reading) → Ahead a a → ⊥
  pub transitive : (a b c : Reading) → Ahead a b → Ahead b c → Ahead a c
  pub comparable : (a b : Reading) → (a ≡ b) ⊎ (Ahead a b ⊎ Ahead b a)
