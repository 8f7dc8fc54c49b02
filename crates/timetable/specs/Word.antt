-- A date as it is typed.
use Rattle.std.specs.Prelude.{◌≡◌, ℕ, ◌+◌, ◌/◌, ◌%◌, ◌<◌, List, [], ◌∷◌, Some, None, Option, ◌≢◌}
use Rattle.market.specs.declared.date.Date.{Date}
use Rattle.timetable.specs.Text.{date_text}

-- the first and the second digit of a number below 100
abbrev pub tens : ℕ → ℕ
tens n = 48 + n / 10

abbrev pub ones : ℕ → ℕ
ones n = 48 + n % 10

-- the number that two bytes spell, or none where they spell none
abbrev pub TwoRead : ℕ → ℕ → Option ℕ → Type 0
TwoRead a b (Some n) = (n < 100) × (a ≡ tens n) × (b ≡ ones n)
TwoRead a b None = (n : ℕ) → n < 100 → a ≡ tens n → b ≢ ones n

-- year, month and day with four, two and two digits, and a hyphen between
abbrev pub spelled : ℕ → ℕ → ℕ → List ℕ
spelled y m d =
    tens (y / 100) ∷ ones (y / 100) ∷ tens (y % 100) ∷ ones (y % 100) ∷ 45 ∷ tens m ∷ ones m ∷ 45 ∷ tens d ∷ ones d ∷ []

-- the numbers that the word spells, or none where it spells none
abbrev pub PartsRead : List ℕ → Option (ℕ × ℕ × ℕ) → Type 0
PartsRead word (Some p) = word ≡ spelled p.0 p.1 p.2
PartsRead word None = (y m d : ℕ) → y < 10000 → m < 100 → d < 100 → word ≢ spelled y m d

-- the date that is written like the word, or none where none is
abbrev pub ReadsDate : List ℕ → Option Date → Type 0
ReadsDate word (Some date) = word ≡ date_text date
ReadsDate word None = (date : Date) → word ≢ date_text date
