-- A date's text, digit by digit.
use Rattle.std.proofs.Common.{◌≡◌, ℕ, ◌/◌, ◌%◌, ◌<◌, ◌≤◌, true, false, ltb, List, [], ◌∷◌, ◌++◌, Some, None, Ok, Err, decimal, Option, Result, ap, ◌∙◌, ⊎_elim, arith}
use Rattle.std.specs.Result.{result_ok}
use Rattle.std.proofs.lemmas.Fmt.{decimal_digit, decimal_step}
use Rattle.std.proofs.lemmas.Bool.{cases_lt}
use Rattle.std.proofs.lemmas.Bool.Decides.{nat_tests}
use Rattle.market.specs.declared.refusal.Refusal.{Refusal}
use Rattle.market.specs.declared.date.Date.{Date}
use Rattle.market.specs.Calendar.{days_in}
use Rattle.market.specs.Dates.{Dated}
use Rattle.timetable.specs.Text.{two_digits, date_text}
use Rattle.timetable.specs.Word.{tens, ones, spelled, ReadsDate}

-- the two digits of a number below 100
pair : (n : ℕ) → 10 ≤ n → n < 100 → decimal n ≡ tens n ∷ ones n ∷ []
pair n l h = decimal_step n l (omega arith) ∙ ap (λ ds. ds ++ (ones n ∷ [])) (decimal_digit (n / 10) (omega arith))

two : (n : ℕ) → n < 100 → two_digits n ≡ tens n ∷ ones n ∷ []
two n h = ⊎_elim
    (λ small.
    let zero : n / 10 ≡ 0 = omega arith in
    let same : n % 10 ≡ n = omega arith in
    let one = decimal_digit n small in
    let t : ltb n 10 ≡ true = grind (arith, nat_tests) in
    cc)
    (λ large. let both = pair n large h in let t : ltb n 10 ≡ false = grind (arith, nat_tests) in cc)
    (cases_lt n 10)

-- the four digits of a year
four : (n : ℕ) → 1000 ≤ n → n < 10000 → decimal n ≡ tens (n / 100) ∷ ones (n / 100) ∷ tens (n % 100) ∷ ones (n % 100) ∷ []
four n l h =
    let last = decimal_step n (omega arith) (omega arith) in
    let third = decimal_step (n / 10) (omega arith) (omega arith) in
    let front = pair (n / 100) (omega arith) (omega arith) in
    let hundred : n / 10 / 10 ≡ n / 100 = omega arith in
    let a : n / 10 % 10 ≡ n % 100 / 10 = omega arith in
    let b : n % 10 ≡ n % 100 % 10 = omega arith in
    cc

-- a date is written by the digits of its numbers
pub date_spelled : (date : Date) → date_text date ≡ spelled date.year date.month date.day
date_spelled date =
    let year = four date.year (omega arith) (omega arith) in
    let month = two date.month (omega arith) in
    let few : days_in date.year date.month ≤ 31 = grind (arith, nat_tests) in
    let day = two date.day (omega arith) in
    cc

-- a number by its two digits
from_digits : (m n : ℕ) → tens m ≡ tens n → ones m ≡ ones n → m ≡ n
from_digits m n a b = omega arith

-- numbers that are spelled alike are the same
spelled_one : (y m d z n e : ℕ) → spelled y m d ≡ spelled z n e → (y ≡ z) × (m ≡ n) × (d ≡ e)
spelled_one y m d z n e h =
    let century = from_digits (y / 100) (z / 100) (cc) (cc) in
    let year = from_digits (y % 100) (z % 100) (cc) (cc) in
    (omega arith, from_digits m n (cc) (cc), from_digits d e (cc) (cc))

-- the date of the numbers that a word spells is the one that is written like it
pub read_parts : (w : List ℕ) (y m d : ℕ) (r : Result Date Refusal) (o : Option Date) → w ≡ spelled y m d → Dated y m d r → o ≡ result_ok r → ReadsDate w o
read_parts w y m d (Ok date) (Some got) h k e = let text = date_spelled date in cc
read_parts w y m d (Ok date) None h k e = λ other same. let z : ◌≡◌ {A = ℕ} 0 1 = cc in omega arith
read_parts w y m d (Err x) (Some got) h k e = cc
read_parts w y m d (Err x) None h (none, n) e = λ date same.
    let text = date_spelled date in
    let parts = spelled_one y m d date.year date.month date.day (cc) in
    let days : days_in y m ≡ days_in date.year date.month = cc in
    none (omega arith, omega arith, omega arith, omega arith, omega arith, omega arith)
