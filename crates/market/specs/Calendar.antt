-- The calendar, over plain numbers: which dates there are, how days are counted, and on which days the clocks change.
use Rattle.std.specs.Prelude.{◌≡◌, ℕ, zero, suc, ◌+◌, ◌-◌, ◌%◌, ◌<◌, ◌≤◌, Bool, cond, not, ◌&&◌, ◌||◌, ◌⊎◌, List, ◌==◌, nat_lt, slice_index_or}
use Rattle.market.specs.declared.clock.DayKind.{DayKind}
use Rattle.market.specs.declared.clock.DayKind.TheVariants.{Winter, Summer, SpringChange, AutumnChange}

-- a year of 366 days
abbrev pub leap : ℕ → Bool
leap y = y % 4 == 0 && (not (y % 100 == 0) || y % 400 == 0)

-- April, June, September and November
abbrev pub short : ℕ → Bool
short m = (m == 4 || m == 6) || (m == 9 || m == 11)

-- how many days month m of year y has
abbrev pub days_in : ℕ → ℕ → ℕ
days_in y m = cond (m == 2) (cond (leap y) 29 28) (cond (short m) 30 31)

-- a date of the calendar in the years 2024 to 2055
abbrev pub Exists : ℕ → ℕ → ℕ → Type 0
Exists y m d = (2024 ≤ y) × (y ≤ 2055) × (1 ≤ m) × (m ≤ 12) × (1 ≤ d) × (d ≤ days_in y m)

-- the days of the first n months of year y
abbrev pub days_of_months : ℕ → ℕ → ℕ
days_of_months y zero = 0
days_of_months y (suc n) = days_of_months y n + days_in y (suc n)

-- the days of the first n years from 2024 on
abbrev pub days_of_years : ℕ → ℕ
days_of_years zero = 0
days_of_years (suc n) = days_of_years n + days_of_months (2024 + n) 12

-- a date counted in days from Sunday 31 December 2023: 1 January 2024, a Monday, is day 1
abbrev pub day_count : ℕ → ℕ → ℕ → ℕ
day_count y m d = days_of_years (y - 2024) + days_of_months y (m - 1) + d

-- d is the last Sunday of month m of year y
pub record LastSunday (y m d : ℕ) : Type 0 where
  pub sunday : day_count y m d % 7 ≡ 0
  pub from_first : 1 ≤ d
  pub to_last : d ≤ days_in y m
  -- the Sunday after lies in the next month
  pub then_next : days_in y m < d + 7

-- a table of change days, two for each year from 2024 to 2055: the last Sunday of March and the last Sunday of October
pub record LastSundays (table : List (ℕ × ℕ)) : Type 0 where
  pub march : (y : ℕ) → 2024 ≤ y → y ≤ 2055 → LastSunday y 3 (slice_index_or table (y - 2024) (0, 0)).0
  pub october : (y : ℕ) → 2024 ≤ y → y ≤ 2055 → LastSunday y 10 (slice_index_or table (y - 2024) (0, 0)).1

-- the last Sunday of a month: as many days before its last day as that day comes after a Sunday
abbrev pub last_sunday : ℕ → ℕ → ℕ
last_sunday y m = days_in y m - day_count y m (days_in y m) % 7

-- the kind of day n, where the clocks change on days s and a of the same year
abbrev pub kind_between : ℕ → ℕ → ℕ → DayKind
kind_between s a n = cond (n == s) SpringChange (cond (n == a) AutumnChange (cond (nat_lt s n && nat_lt n a) Summer Winter))

-- the kind of Settlement Day of a date
abbrev pub kind_of : ℕ → ℕ → ℕ → DayKind
kind_of y m d = kind_between (day_count y 3 (last_sunday y 3)) (day_count y 10 (last_sunday y 10)) (day_count y m d)

-- the same in words: the clocks change on the last Sundays of March and October, and the days between these are summer
abbrev pub IsKind : ℕ → ℕ → ℕ → DayKind → Type 0
IsKind s a n Winter = (n < s) ⊎ (a < n)
IsKind s a n SpringChange = n ≡ s
IsKind s a n Summer = (s < n) × (n < a)
IsKind s a n AutumnChange = n ≡ a

abbrev pub KindOn : ℕ → ℕ → ℕ → DayKind → Type 0
KindOn y m d k = (s a : ℕ) → LastSunday y 3 s → LastSunday y 10 a → IsKind (day_count y 3 s) (day_count y 10 a) (day_count y m d) k
