-- What the functions on dates promise.
use Rattle.std.specs.Prelude.{◌≡◌, ℕ, ◌+◌, Ok, Err, Result}
use Rattle.market.specs.declared.refusal.Refusal.{Refusal}
use Rattle.market.specs.declared.date.Date.{Date}
use Rattle.market.specs.Refusal.{number_of}
use Rattle.market.specs.Calendar.{Exists, day_count, LastSunday}

-- the date of these numbers, or 14 where there is none
abbrev pub Dated : ℕ → ℕ → ℕ → Result Date Refusal → Type 0
Dated y m d (Ok date) = Exists y m d × (date.year ≡ y) × (date.month ≡ m) × (date.day ≡ d)
Dated y m d (Err e) = (Exists y m d → ⊥) × (number_of e ≡ 14)

-- a date's place in the count of days
abbrev pub count_of : Date → ℕ
count_of date = day_count date.year date.month date.day

-- the date before, or 14 where that lies outside the years: before 1 January 2024 only
abbrev pub DatedBefore : Date → Result Date Refusal → Type 0
DatedBefore date (Ok before) = count_of before + 1 ≡ count_of date
DatedBefore date (Err e) = (count_of date ≡ 1) × (number_of e ≡ 14)

-- every date has a day of its own in the count
abbrev pub OneDateADay : Type 0
OneDateADay = (a b : Date) → count_of a ≡ count_of b → (a.year ≡ b.year) × (a.month ≡ b.month) × (a.day ≡ b.day)

-- the clocks change on this date: it is the last Sunday of month m of year y
abbrev pub ChangesOn : ℕ → ℕ → Date → Type 0
ChangesOn y m date = (date.year ≡ y) × (date.month ≡ m) × LastSunday y m date.day
