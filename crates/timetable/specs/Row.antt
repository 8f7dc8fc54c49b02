-- The line of a Settlement Period.
use Rattle.std.specs.Prelude.{◌≡◌, ℕ, ◌+◌, List, ◌++◌, Ok, Err, codes, Result}
use Rattle.market.specs.declared.refusal.Refusal.{Refusal}
use Rattle.market.specs.declared.clock.SettlementPeriod.{SettlementPeriod}
use Rattle.market.specs.declared.clock.UtcDate.{UtcDate}
use Rattle.market.specs.declared.clock.UtcDate.TheVariants.{DateBefore, TheDate}
use Rattle.market.specs.declared.clock.DayKind.{DayKind}
use Rattle.market.specs.declared.date.Date.{Date}
use Rattle.market.specs.Refusal.{number_of}
use Rattle.market.specs.Clock.{SameTime, HasPeriod}
use Rattle.market.specs.ClockTime.{EndsAt}
use Rattle.market.specs.Calendar.{kind_of}
use Rattle.market.specs.Dates.{count_of, DatedBefore}
use Rattle.timetable.specs.declared.row.Row.{Row}
use Rattle.timetable.specs.Text.{two_columns, date_text, time_text}

-- the kind of Settlement Day that a date is
abbrev pub kind_on : Date → DayKind
kind_on day = kind_of day.year day.month day.day

-- the date of a day's UTC period: the day's own, or the one before
abbrev pub UtcDateOf : Date → UtcDate → Date → Type 0
UtcDateOf day TheDate date = date ≡ day
UtcDateOf day DateBefore date = count_of date + 1 ≡ count_of day

abbrev pub UtcDated : Date → UtcDate → Result Date Refusal → Type 0
UtcDated day d (Ok date) = UtcDateOf day d date
UtcDated day d (Err e) = (d ≡ DateBefore) × DatedBefore day (Err e)

-- the row tells the UTC date and period of its Settlement Period, and the time at which it ends
pub record RowOf (day : Date) (row : Row) : Type 0 where
  pub utc_date : UtcDate
  pub utc : SameTime (kind_on day) row.period.0 utc_date row.utc.0
  pub date : UtcDateOf day utc_date row.date
  pub ends : EndsAt (kind_on day) row.period.0 (Ok row.ends)

-- the row of a Settlement Period, or 3 where the day has no such period
abbrev pub Rowed : Date → SettlementPeriod → Result Row Refusal → Type 0
Rowed day p (Ok row) = (row.period ≡ p) × RowOf day row
Rowed day p (Err e) = (HasPeriod (kind_on day) p.0 → ⊥) × (number_of e ≡ 3)

-- a row as it is written, in columns
abbrev pub row_text : Row → List ℕ
row_text row =
    codes "    " ++ (two_columns row.period.0 ++ (codes "  " ++ (time_text row.ends ++ (codes "  " ++ (date_text row.date ++ (codes "          " ++ two_columns row.utc.0))))))
