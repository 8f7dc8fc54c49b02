-- Dates in the count of days: how two of them compare, and that no two have the same day.
use Rattle.std.proofs.Common.{◌≡◌, ℕ, suc, ◌+◌, ◌-◌, ◌<◌, ◌≤◌, Ok, Err, Result, Ordering, Less, Equal, Greater, nat_cmp, sym, ap, subst, ⊎_elim, arith}
use Rattle.std.specs.Cmp.{ranks}
use Rattle.std.specs.Ordering.{MatchOrdering, ordering_then}
use Rattle.std.proofs.lemmas.Bool.{cases_lt, cases_order}
use Rattle.std.proofs.lemmas.Bool.Decides.{nat_tests}
use Rattle.market.specs.declared.refusal.Refusal.{Refusal}
use Rattle.market.specs.declared.date.Date.{Date}
use Rattle.market.specs.Calendar.{days_in, days_of_years, day_count}
use Rattle.market.specs.Dates.{count_of, Dated, DatedBefore, OneDateADay}
use Rattle.market.proofs.Counts.{months_to, years_to, earlier_month, earlier_year}

earlier_in_year : (a b : Date) → a.year ≡ b.year → a.month < b.month → count_of a < count_of b
earlier_in_year a b y m =
    let same = ap (λ n. day_count n b.month b.day) y in
    let less = earlier_month a.year a.month a.day b.month b.day a.months.0 m a.days.1 b.days.0 in
    omega arith

-- in one month the count goes by the day
same_month : (a b : Date) → a.year ≡ b.year → a.month ≡ b.month → count_of a + b.day ≡ count_of b + a.day
same_month a b y m =
    let same : day_count a.year a.month 0 ≡ day_count b.year b.month 0 = cc in omega arith

earlier : (a b : Date) → a.year < b.year → count_of a < count_of b
earlier a b h =
    earlier_year a.year a.month a.day b.year b.month b.day a.years.0 h a.months.0 a.months.1 a.days.1 b.days.0

-- how two numbers compare
abbrev Order : Ordering → ℕ → ℕ → Type 0
Order o a b = MatchOrdering o (a < b) (a ≡ b) (b < a)

then_order : (a b : Date) (y m d : Ordering) → Order y a.year b.year → Order m a.month b.month → Order d a.day b.day →
    Order (ordering_then y (ordering_then m d)) (count_of a) (count_of b)
then_order a b Less m d p q r = earlier a b p
then_order a b Greater m d p q r = earlier b a p
then_order a b Equal Less d p q r = earlier_in_year a b p q
then_order a b Equal Greater d p q r = earlier_in_year b a (sym p) q
then_order a b Equal Equal Less p q r = let same = same_month a b p q in omega arith
then_order a b Equal Equal Equal p q r = let same = same_month a b p q in omega arith
then_order a b Equal Equal Greater p q r = let same = same_month a b p q in omega arith

-- dates compare as their years do, then their months, then their days: as their counts do
pub compared : (a b : Date) (o : Ordering) → o ≡ ordering_then (nat_cmp a.year b.year) (ordering_then (nat_cmp a.month b.month) (nat_cmp a.day b.day)) →
    Order o (count_of a) (count_of b)
compared a b o e = subst (λ (x : Ordering). Order x (count_of a) (count_of b)) (sym e)
    (then_order a b _ _ _ (ranks a.year b.year) (ranks a.month b.month) (ranks a.day b.day))

-- no two dates have the same day in the count
pub one_date_a_day : OneDateADay
one_date_a_day a b e = ⊎_elim
    (λ y. ⊎_elim
    (λ m. let same = same_month a b y m in (y, m, omega arith))
    (⊎_elim (λ m. let h = earlier_in_year a b y m in absurd (omega arith)) (λ m. let h = earlier_in_year b a (sym y) m in absurd (omega arith)))
    (cases_order a.month b.month))
    (⊎_elim (λ y. let h = earlier a b y in absurd (omega arith)) (λ y. let h = earlier b a y in absurd (omega arith)))
    (cases_order a.year b.year)

-- the day before in the same month
pub day_back : (date : Date) (r : Result Date Refusal) → 1 < date.day → Dated date.year date.month (date.day - 1) r → DatedBefore date r
day_back date (Ok b) h e =
    let same : count_of b ≡ day_count date.year date.month (date.day - 1) = cc in omega arith
day_back date (Err e) h (none, n) =
    absurd (none (date.years.0, date.years.1, date.months.0, date.months.1, omega arith, omega arith))

days_some : (y m : ℕ) → 1 ≤ days_in y m
days_some y m = grind (arith, nat_tests)

-- the last day of the month before
pub month_back : (date : Date) (r : Result Date Refusal) → date.day ≤ 1 → 1 < date.month →
    Dated date.year (date.month - 1) (days_in date.year (date.month - 1)) r → DatedBefore date r
month_back date (Ok b) h l e =
    let same : count_of b ≡ day_count date.year (date.month - 1) (days_in date.year (date.month - 1)) = cc in
    let month = months_to date.year (date.month - 1) (omega arith) in
    omega arith
month_back date (Err e) h l (none, n) =
    absurd (none (date.years.0, date.years.1, omega arith, omega arith, days_some date.year (date.month - 1), omega arith))

-- the last day of the year before
pub year_back : (date : Date) (r : Result Date Refusal) → date.day ≤ 1 → date.month ≤ 1 → Dated (date.year - 1) 12 31 r → DatedBefore date r
year_back date (Ok b) h l e =
    let same : count_of b ≡ day_count (date.year - 1) 12 31 = cc in
    let one : date.month ≡ 1 = omega arith in
    let first : count_of date ≡ day_count date.year 1 date.day = cc in
    let year = years_to (date.year - 1) e.0.0 in
    let next : suc (date.year - 1 - 2024) ≡ date.year - 2024 = omega arith in
    let years = ap days_of_years next in
    omega arith
year_back date (Err e) h l (none, n) =
    let start : date.year ≡ 2024 =
    ⊎_elim (λ k. absurd (none (omega arith, omega arith, omega arith, omega arith, omega arith, omega arith))) (λ k. omega arith)
    (cases_lt 2024 date.year) in
    let one : date.month ≡ 1 = omega arith in
    let day : date.day ≡ 1 = omega arith in
    (let first : count_of date ≡ day_count 2024 1 1 = cc in first, n)
