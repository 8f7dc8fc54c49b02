-- How dates, times and numbers are written.
use Rattle.std.specs.Prelude.{ℕ, cond, List, ◌++◌, codes, decimal, nat_lt}
use Rattle.market.specs.declared.clock.DayKind.{DayKind}
use Rattle.market.specs.declared.clock.DayKind.TheVariants.{Winter, Summer, SpringChange, AutumnChange}
use Rattle.market.specs.declared.date.Date.{Date}
use Rattle.market.specs.declared.clock_time.Zone.{Zone}
use Rattle.market.specs.declared.clock_time.Zone.TheVariants.{Gmt, Bst}
use Rattle.market.specs.declared.clock_time.ClockTime.{ClockTime}

-- a number below 100 in two places, with a fill in front if it has one digit
abbrev pub in_two : List ℕ → ℕ → List ℕ
in_two fill n = cond (nat_lt n 10) (fill ++ decimal n) (decimal n)

-- the fill is a zero
abbrev pub two_digits : ℕ → List ℕ
two_digits n = in_two (codes "0") n

-- the fill is a space
abbrev pub two_columns : ℕ → List ℕ
two_columns n = in_two (codes " ") n

-- a date, as 2025-03-30
abbrev pub date_text : Date → List ℕ
date_text d = decimal d.year ++ (codes "-" ++ (two_digits d.month ++ (codes "-" ++ two_digits d.day)))

-- the name of the time that clocks keep
abbrev pub zone_text : Zone → List ℕ
zone_text Gmt = codes " GMT"
zone_text Bst = codes " BST"

-- a clock time, as 00:30 BST
abbrev pub time_text : ClockTime → List ℕ
time_text t = two_digits t.hour ++ (codes ":" ++ (two_digits t.minute ++ zone_text t.zone))

-- the kind of a day in words
abbrev pub kind_text : DayKind → List ℕ
kind_text Winter = codes "winter day"
kind_text Summer = codes "summer day"
kind_text SpringChange = codes "spring clock change"
kind_text AutumnChange = codes "autumn clock change"
