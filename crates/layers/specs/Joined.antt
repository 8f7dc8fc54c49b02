-- A joined day: two UTC dates shown as a Settlement Day.
use Rattle.std.specs.Prelude.{ℕ, ◌+◌, ◌-◌, ◌≤◌, min, cond, ◌&&◌, Some, None, Option, ◌==◌, nat_le}
use Rattle.market.specs.declared.clock.UtcDate.{UtcDate}
use Rattle.market.specs.declared.clock.UtcDate.TheVariants.{DateBefore, TheDate}
use Rattle.market.specs.declared.clock.UtcPeriod.{UtcPeriod}
use Rattle.market.specs.declared.clock.DayKind.{DayKind}
use Rattle.market.specs.Clock.{periods_of, lead_of, HasPeriod, SameTime}
use Rattle.readings.specs.declared.reading.Reading.{Reading}
use Rattle.stores.specs.Grid.{Grid}

-- the UTC date and period of Settlement Period p, as a function: the first ones lie at the end of the date before
abbrev pub utc_of : DayKind → ℕ → Option (UtcDate × ℕ)
utc_of k p =
    cond (nat_le 1 p && nat_le p (periods_of k)) (Some (cond (nat_le p (lead_of k)) (DateBefore, p + 46) (TheDate, p - lead_of k))) None

-- where a place of a day with ms meters lies, or none where the day has no such place
abbrev pub LiesAt : DayKind → ℕ → ℕ → ℕ → Option (UtcDate × UtcPeriod) → Type 0
LiesAt k ms m p (Some place) = (1 ≤ m) × (m ≤ ms) × SameTime k p place.0 place.1.0
LiesAt k ms m p None = (1 ≤ m) × (m ≤ ms) × HasPeriod k p → ⊥

-- what two dates hold for a meter at a place of theirs
abbrev pub on_date : Grid → Grid → ℕ → UtcDate → ℕ → Option Reading
on_date before date m DateBefore u = before m u
on_date before date m TheDate u = date m u

abbrev pub on_dates : Grid → Grid → ℕ → Option (UtcDate × ℕ) → Option Reading
on_dates before date m None = None
on_dates before date m (Some place) = on_date before date m place.0 place.1

-- the day of a kind that two dates make, for ms meters
abbrev pub joined_grid : DayKind → ℕ → Grid → Grid → Grid
joined_grid k ms before date m p = cond (nat_le 1 m && nat_le m ms) (on_dates before date m (utc_of k p)) None

-- its meters: those that both dates have, if both have 48 periods
abbrev pub common_meters : ℕ → ℕ → ℕ → ℕ → ℕ
common_meters ms ps ns qs = cond (ps == 48 && qs == 48) (min ms ns) 0

-- the kind of day as a number
abbrev pub kind_place : DayKind → ℕ
kind_place k = periods_of k + lead_of k
