-- Numbers below 100 as the table writes them: in two places, filled by zeros or by spaces.
use Rattle.std.proofs.Common.{◌≡◌, ℕ, ◌^◌, ◌-◌, ◌<◌, ◌≤◌, true, false, ltb, [], length, decimal, ap, ⊎_elim, arith, length-append, append-nil, ◌/◌}
use Rattle.std.specs.Fmt.{padded_integral, char_count, format_spec}
use Rattle.std.proofs.lemmas.Str.{encode_ascii}
use Rattle.std.proofs.lemmas.Fmt.{decimal_digit, decimal_step, decimal_nonempty}
use Rattle.std.proofs.lemmas.Bool.{cases_lt}
use Rattle.std.proofs.lemmas.Bool.Decides.{nat_tests}
use Rattle.timetable.specs.Text.{two_digits, two_columns}

-- a number from 10 on fills two places by itself
no_room : (n : ℕ) → 10 ≤ n → n < 2 ^ 64 → 2 - length (decimal n) ≡ 0
no_room n l h =
    let step = ap length (decimal_step n l h) in
    let front = decimal_nonempty (n / 10) (omega arith) in
    omega (arith, length-append {A = ℕ})

pub zero_filled : (n : ℕ) → n < 2 ^ 64 → padded_integral (format_spec 32 0 4 2 (2 ^ 64 - 1)) false [] (decimal n) ≡ two_digits n
unfolding padded_integral char_count
zero_filled n h = ⊎_elim
    (λ small. let t : ltb n 10 ≡ true = grind (arith, nat_tests) in rw (decimal_digit n small, t))
    (λ large. let t : ltb n 10 ≡ false = grind (arith, nat_tests) in rw (no_room n large h, t) (simp append-nil))
    (cases_lt n 10)

pub space_filled : (n : ℕ) → n < 2 ^ 64 → padded_integral (format_spec 32 0 0 2 (2 ^ 64 - 1)) false [] (decimal n) ≡ two_columns n
unfolding padded_integral char_count
space_filled n h = ⊎_elim
    (λ small.
    let t : ltb n 10 ≡ true = grind (arith, nat_tests) in
    let low : 32 < 128 = omega arith in
    rw (decimal_digit n small, t, encode_ascii 32 low))
    (λ large. let t : ltb n 10 ≡ false = grind (arith, nat_tests) in rw (no_room n large h, t) (simp append-nil))
    (cases_lt n 10)
