-- The count of days goes up with the date.
use Rattle.std.proofs.Common.{◌≡◌, ℕ, zero, suc, ◌+◌, ◌-◌, ◌<◌, ◌≤◌, ap, ⊎_elim, arith}
use Rattle.std.proofs.lemmas.Bool.{cases_eq}
use Rattle.market.specs.Calendar.{days_in, days_of_months, days_of_years, day_count}

-- a count that never falls from one number to the next never falls
rising : (f : ℕ → ℕ) → ((n : ℕ) → f n ≤ f (suc n)) → (a b : ℕ) → a ≤ b → f a ≤ f b
rising f step a zero h = let e : a ≡ zero = omega arith in let g = ap f e in omega arith
rising f step a (suc b) h =
    ⊎_elim (λ e. let g = ap f e in omega arith) (λ ne. let r = rising f step a b (omega arith) in let s = step b in omega arith)
    (cases_eq a (suc b))

-- the months up to m are those before it and m itself
pub months_to : (y m : ℕ) → 1 ≤ m → days_of_months y m ≡ days_of_months y (m - 1) + days_in y m
months_to y zero h = absurd (omega arith)
months_to y (suc n) h =
    let e : suc n - 1 ≡ n = omega arith in
    let f = ap (days_of_months y) e in omega arith

-- the years up to y are those before it and y itself
pub years_to : (y : ℕ) → 2024 ≤ y → days_of_years (suc (y - 2024)) ≡ days_of_years (y - 2024) + days_of_months y 12
years_to y h =
    let e : 2024 + (y - 2024) ≡ y = omega arith in
    let f = ap (λ n. days_of_months n 12) e in omega arith

-- a day of a year is no later than the year's last one
in_year : (y m d : ℕ) → 2024 ≤ y → 1 ≤ m → m ≤ 12 → d ≤ days_in y m → day_count y m d ≤ days_of_years (suc (y - 2024))
in_year y m d h l u k =
    let year = years_to y h in
    let month = months_to y m l in
    let rest = rising (days_of_months y) (λ n. omega arith) m 12 u in
    omega arith

pub earlier_month : (y m d n e : ℕ) → 1 ≤ m → m < n → d ≤ days_in y m → 1 ≤ e → day_count y m d < day_count y n e
earlier_month y m d n e l h k o =
    let month = months_to y m l in
    let rest = rising (days_of_months y) (λ i. omega arith) m (n - 1) (omega arith) in
    omega arith

pub earlier_year : (y m d z n e : ℕ) → 2024 ≤ y → y < z → 1 ≤ m → m ≤ 12 → d ≤ days_in y m → 1 ≤ e → day_count y m d < day_count z n e
earlier_year y m d z n e from h l u k o =
    let year = in_year y m d from l u k in
    let rest = rising days_of_years (λ i. omega arith) (suc (y - 2024)) (z - 2024) (omega arith) in
    omega arith
