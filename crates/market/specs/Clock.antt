-- The two clocks of a Settlement Day.
use Rattle.std.specs.Prelude.{◌≡◌, ℕ, ◌+◌, ◌≤◌, Some, None, Ok, Err, Option, Result}
use Rattle.market.specs.declared.refusal.Refusal.{Refusal}
use Rattle.market.specs.declared.clock.SettlementPeriod.{SettlementPeriod}
use Rattle.market.specs.declared.clock.UtcPeriod.{UtcPeriod}
use Rattle.market.specs.declared.clock.UtcDate.{UtcDate}
use Rattle.market.specs.declared.clock.UtcDate.TheVariants.{DateBefore, TheDate}
use Rattle.market.specs.declared.clock.ClockPlace.{ClockPlace}
use Rattle.market.specs.declared.clock.ClockPlace.TheVariants.{Settlement, Utc}
use Rattle.market.specs.declared.clock.DayKind.{DayKind}
use Rattle.market.specs.declared.clock.DayKind.TheVariants.{Winter, Summer, SpringChange, AutumnChange}
use Rattle.market.specs.Refusal.{number_of}

-- how many Settlement Periods a day has
abbrev pub periods_of : DayKind → ℕ
periods_of Winter = 48
periods_of Summer = 48
periods_of SpringChange = 46
periods_of AutumnChange = 50

-- how many of them lie on the UTC date before
abbrev pub lead_of : DayKind → ℕ
lead_of Winter = 0
lead_of Summer = 2
lead_of SpringChange = 0
lead_of AutumnChange = 2

-- Settlement Period p of a day is UTC period u of that date, for the four kinds:
-- winter: UTC periods 1 to 48 of the date;
-- summer: 47 and 48 of the date before, then 1 to 46 of the date;
-- spring change: 1 to 46 of the date;
-- autumn change: 47 and 48 of the date before, then 1 to 48 of the date
abbrev pub SameTime : DayKind → ℕ → UtcDate → ℕ → Type 0
SameTime Winter p DateBefore u = ⊥
SameTime Winter p TheDate u = (1 ≤ u) × (u ≤ 48) × (p ≡ u)
SameTime Summer p DateBefore u = (47 ≤ u) × (u ≤ 48) × (p + 46 ≡ u)
SameTime Summer p TheDate u = (1 ≤ u) × (u ≤ 46) × (p ≡ u + 2)
SameTime SpringChange p DateBefore u = ⊥
SameTime SpringChange p TheDate u = (1 ≤ u) × (u ≤ 46) × (p ≡ u)
SameTime AutumnChange p DateBefore u = (47 ≤ u) × (u ≤ 48) × (p + 46 ≡ u)
SameTime AutumnChange p TheDate u = (1 ≤ u) × (u ≤ 48) × (p ≡ u + 2)

-- the day has a Settlement Period of this number
abbrev pub HasPeriod : DayKind → ℕ → Type 0
HasPeriod k p = (1 ≤ p) × (p ≤ periods_of k)

-- a UTC date has a period of this number
abbrev pub HasUtc : ℕ → Type 0
HasUtc u = (1 ≤ u) × (u ≤ 48)

-- from a Settlement Period: its UTC date and period, or 3 where the day has no such period
abbrev pub ToUtc : DayKind → SettlementPeriod → Result (UtcDate × UtcPeriod) Refusal → Type 0
ToUtc k p (Ok q) = SameTime k p.0 q.0 q.1.0
ToUtc k p (Err e) = (HasPeriod k p.0 → ⊥) × (number_of e ≡ 3)

-- from a UTC period: its Settlement Period, none where it lies outside the day, or 3 where no date has such a period
abbrev pub ToSettlement : DayKind → UtcDate → UtcPeriod → Result (Option SettlementPeriod) Refusal → Type 0
ToSettlement k d u (Ok (Some p)) = SameTime k p.0 d u.0
ToSettlement k d u (Ok None) = HasUtc u.0 × ((p : ℕ) → SameTime k p d u.0 → ⊥)
ToSettlement k d u (Err e) = (HasUtc u.0 → ⊥) × (number_of e ≡ 3)

-- the same half hour by the other clock
abbrev pub Converted : DayKind → ClockPlace → Result (Option ClockPlace) Refusal → Type 0
Converted k (Settlement p) (Ok (Some (Utc d u))) = ToUtc k p (Ok (d, u))
Converted k (Settlement p) (Ok (Some (Settlement q))) = ⊥
Converted k (Settlement p) (Ok None) = ⊥
Converted k (Settlement p) (Err e) = ToUtc k p (Err e)
Converted k (Utc d u) (Ok (Some (Settlement p))) = ToSettlement k d u (Ok (Some p))
Converted k (Utc d u) (Ok (Some (Utc e v))) = ⊥
Converted k (Utc d u) (Ok None) = ToSettlement k d u (Ok None)
Converted k (Utc d u) (Err e) = ToSettlement k d u (Err e)

-- what holds of the two clocks on every day
pub record ClockLaws : Type 0 where
  -- every Settlement Period has a UTC period
  pub every : (k : DayKind) (p : ℕ) → HasPeriod k p → (d : UtcDate) × (u : ℕ) × HasUtc u × SameTime k p d u
  -- and only one
  pub one_utc : (k : DayKind) (p u v : ℕ) (d e : UtcDate) → SameTime k p d u → SameTime k p e v → (d ≡ e) × (u ≡ v)
  -- which is that of no other Settlement Period
  pub one_settlement : (k : DayKind) (p q u : ℕ) (d : UtcDate) → SameTime k p d u → SameTime k q d u → HasPeriod k p × (p ≡ q)
  -- what was converted and is converted again is what it was
  pub there_and_back : (k : DayKind) (place other : ClockPlace) (r : Result (Option ClockPlace) Refusal) →
      Converted k place (Ok (Some other)) → Converted k other r → r ≡ Ok (Some place)
