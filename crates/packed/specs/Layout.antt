-- How readings lie in bytes: nine to a place, 48 places to a meter.
use Rattle.std.specs.Prelude.{ℕ, ◌+◌, ◌*◌, ◌/◌, ◌%◌, List, [], ◌∷◌, ◌++◌, take, drop, Option, slice_index}
use Rattle.readings.specs.declared.reading.Reading.{Reading}
use Rattle.qualities.specs.Quality.{number_of}
use Rattle.readings.specs.Numbers.{reading_of}

-- the number in the four bytes from o on, the highest byte first
abbrev pub word_at : List ℕ → ℕ → ℕ
word_at bs o = slice_index bs o * 16777216 + slice_index bs (o + 1) * 65536 + slice_index bs (o + 2) * 256 + slice_index bs (o + 3)

-- the four bytes of a number below 2 ^ 32, the highest first
abbrev pub four_bytes : ℕ → List ℕ
four_bytes n = (n / 16777216) ∷ (n / 65536 % 256) ∷ (n / 256 % 256) ∷ (n % 256) ∷ []

-- the reading in the nine bytes from o on: stamp in four, volume in four, quality number in one; nothing where they make no reading
abbrev pub reading_at : List ℕ → ℕ → Option Reading
reading_at bs o = reading_of (word_at bs o) (word_at bs (o + 4)) (slice_index bs (o + 8))

-- the nine bytes of a reading
abbrev pub nine_bytes : Reading → List ℕ
nine_bytes r = four_bytes r.stamp ++ (four_bytes r.volume ++ (number_of r.quality ∷ []))

-- the bytes with the nine from o on replaced by those of a reading, and no other
abbrev pub written : List ℕ → ℕ → Reading → List ℕ
written bs o r = take o bs ++ (nine_bytes r ++ drop (o + 9) bs)

-- what a place shows: the reading in its nine bytes
abbrev pub shown_in : List ℕ → ℕ → Option Reading
shown_in bs k = reading_at bs (k * 9)

-- the bytes with those of a place replaced by those of a reading, and no other
abbrev pub written_in : List ℕ → ℕ → Reading → List ℕ
written_in bs k r = written bs (k * 9) r
