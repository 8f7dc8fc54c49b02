-- The rule of the table of change days, proved by one test over all of its entries, which antt computes.
use Rattle.std.proofs.Common.{◌≡◌, ℕ, ◌+◌, ◌-◌, ◌%◌, ◌≤◌, Bool, true, ◌&&◌, eqb, ltb, leb, List, get_or, subst, arith}
use Rattle.std.proofs.lemmas.Bool.{and_parts, agree_below, agree_below_at}
use Rattle.std.proofs.lemmas.Bool.Decides.{nat_tests}
use Rattle.market.specs.Calendar.{days_in, day_count, LastSunday, LastSundays}

-- whether d is the last Sunday of a month
abbrev is_last_sunday : ℕ → ℕ → ℕ → Bool
is_last_sunday y m d = (eqb (day_count y m d % 7) 0 && leb 1 d) && (leb d (days_in y m) && ltb (days_in y m) (d + 7))

last_sunday_true : (y m d : ℕ) → is_last_sunday y m d ≡ true → LastSunday y m d
last_sunday_true y m d t = record {
  sunday = grind (arith, nat_tests);
  from_first = grind (arith, nat_tests);
  to_last = grind (arith, nat_tests);
  then_next = grind (arith, nat_tests);
}

-- whether both entries of a year, counted from 2024, are last Sundays
abbrev right_in : List (ℕ × ℕ) → ℕ → Bool
right_in table n = is_last_sunday (2024 + n) 3 (get_or table n (0, 0)).0 && is_last_sunday (2024 + n) 10 (get_or table n (0, 0)).1

-- at a year of the table the test passed
right : (table : List (ℕ × ℕ)) → agree_below (right_in table) (λ _. true) 32 ≡ true → (y : ℕ) → 2024 ≤ y → y ≤ 2055 →
    (is_last_sunday y 3 (get_or table (y - 2024) (0, 0)).0 ≡ true) × (is_last_sunday y 10 (get_or table (y - 2024) (0, 0)).1 ≡ true)
right table t y l u =
    let year : 2024 + (y - 2024) ≡ y = omega arith in
    let both = and_parts _ _ (agree_below_at (right_in table) (λ _. true) 32 (y - 2024) t (omega arith)) in (
      subst (λ z. is_last_sunday z 3 (get_or table (y - 2024) (0, 0)).0 ≡ true) year both.0,
      subst (λ z. is_last_sunday z 10 (get_or table (y - 2024) (0, 0)).1 ≡ true) year both.1,
    )

-- a table of which every year passes the test has the last Sundays
pub last_sundays : (table : List (ℕ × ℕ)) → agree_below (right_in table) (λ _. true) 32 ≡ true → LastSundays table
last_sundays table t = record {
  march = λ y l u. last_sunday_true y 3 (get_or table (y - 2024) (0, 0)).0 (right table t y l u).0;
  october = λ y l u. last_sunday_true y 10 (get_or table (y - 2024) (0, 0)).1 (right table t y l u).1;
}
