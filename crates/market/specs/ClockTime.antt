-- The clock time at which a Settlement Period ends.
use Rattle.std.specs.Prelude.{◌≡◌, ℕ, ◌+◌, ◌-◌, ◌*◌, ◌%◌, ◌<◌, cond, Ok, Err, Result, nat_le}
use Rattle.market.specs.declared.refusal.Refusal.{Refusal}
use Rattle.market.specs.declared.clock.UtcDate.{UtcDate}
use Rattle.market.specs.declared.clock.UtcDate.TheVariants.{DateBefore, TheDate}
use Rattle.market.specs.declared.clock.DayKind.{DayKind}
use Rattle.market.specs.declared.clock.DayKind.TheVariants.{Winter, Summer, SpringChange, AutumnChange}
use Rattle.market.specs.declared.clock_time.Zone.{Zone}
use Rattle.market.specs.declared.clock_time.Zone.TheVariants.{Gmt, Bst}
use Rattle.market.specs.declared.clock_time.ClockTime.{ClockTime}
use Rattle.market.specs.Refusal.{number_of}
use Rattle.market.specs.Clock.{SameTime, HasPeriod}

-- by how many minutes a clock is ahead of UTC
abbrev pub ahead_of : Zone → ℕ
ahead_of Gmt = 0
ahead_of Bst = 60

-- the time that clocks keep in UTC period u: summer time starts at 01:00 UTC of the spring change day,
-- with UTC period 3, and ends at 01:00 UTC of the autumn change day
abbrev pub zone_at : DayKind → UtcDate → ℕ → Zone
zone_at Winter d u = Gmt
zone_at Summer d u = Bst
zone_at SpringChange d u = cond (nat_le u 2) Gmt Bst
zone_at AutumnChange DateBefore u = Bst
zone_at AutumnChange TheDate u = cond (nat_le u 2) Bst Gmt

-- a clock time in minutes after 00:00
abbrev pub minutes_of : ClockTime → ℕ
minutes_of t = 60 * t.hour + t.minute

-- Settlement Period p ends when its UTC period does, which is 30 minutes a period after 00:00 UTC; or 3 where the day has no such period
abbrev pub EndsAt : DayKind → ℕ → Result ClockTime Refusal → Type 0
EndsAt k p (Ok t) =
    (t.minute < 60) × ((d : UtcDate) (u : ℕ) → SameTime k p d u →
    (t.zone ≡ zone_at k d u) × (minutes_of t ≡ (30 * u + ahead_of (zone_at k d u)) % 1440))
EndsAt k p (Err e) = (HasPeriod k p → ⊥) × (number_of e ≡ 3)

-- the minutes after midnight that the clock shows at the end of period p: half an hour a period,
-- an hour more once it was put on at 01:00, and an hour less once it was put back at 02:00
abbrev pub since_midnight : DayKind → ℕ → ℕ
since_midnight Winter p = 30 * p
since_midnight Summer p = 30 * p
since_midnight SpringChange p = cond (nat_le p 2) (30 * p) (30 * p + 60)
since_midnight AutumnChange p = cond (nat_le p 4) (30 * p) (30 * p - 60)

-- the same time, told from the start of the day in place of UTC
abbrev pub FromMidnight : DayKind → ℕ → Result ClockTime Refusal → Type 0
FromMidnight k p (Ok t) = HasPeriod k p × (minutes_of t ≡ since_midnight k p % 1440)
FromMidnight k p (Err e) = HasPeriod k p → ⊥
