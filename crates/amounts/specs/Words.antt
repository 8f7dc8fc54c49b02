-- Numbers that wrap at 64 bits, unsigned and signed.
use Rattle.std.specs.Prelude.{◌≡◌, ℕ, ◌+◌, ◌-◌, ◌%◌, ◌^◌, ◌<◌, ℤ, pos, ◌+ℤ◌, ◌-ℤ◌, neg_ℤ}
use Rattle.std.proofs.Common.{ap, sym, ◌∙◌, arith}
use Rattle.std.specs.Int.Signed.{mag}
use Rattle.std.specs.Int.{int_wrap, w64}
use Rattle.amounts.specs.Sums.{Within}
use Rattle.std.proofs.lemmas.Int.{ints, int_wrap-add_left, int_wrap-add_right, int_wrap_fits, SFits-int_wrap}

-- addition and taking away that wrap at 2 ^ 64
abbrev pub add64 : ℕ → ℕ → ℕ
add64 a b = (a + b) % 2 ^ 64

abbrev pub sub64 : ℕ → ℕ → ℕ
sub64 a b = (a + (2 ^ 64 - b)) % 2 ^ 64

pub mod64_fits : (n : ℕ) → n % 2 ^ 64 < 2 ^ 64
mod64_fits n = omega arith

pub add64_assoc : (a b c : ℕ) → add64 (add64 a b) c ≡ add64 a (add64 b c)
add64_assoc a b c = omega arith

pub add64_comm : (a b : ℕ) → add64 a b ≡ add64 b a
add64_comm a b = omega arith

pub add64_zero : (a : ℕ) → a < 2 ^ 64 → add64 a 0 ≡ a
add64_zero a h = omega arith

pub sub64_undoes : (a b : ℕ) → a < 2 ^ 64 → b < 2 ^ 64 → sub64 (add64 a b) b ≡ a
sub64_undoes a b h k = omega arith

-- the same of signed numbers, which wrap at 2 ^ 63
abbrev pub add_i64 : ℤ → ℤ → ℤ
add_i64 a b = int_wrap w64 (a +ℤ b)

abbrev pub sub_i64 : ℤ → ℤ → ℤ
sub_i64 a b = int_wrap w64 (a -ℤ b)

pub wrapped_mag : (z : ℤ) → mag (int_wrap w64 z) < 2 ^ 63
wrapped_mag z = (SFits-int_wrap w64 z).sfits

pub add_i64_assoc : (a b c : ℤ) → add_i64 (add_i64 a b) c ≡ add_i64 a (add_i64 b c)
add_i64_assoc a b c = int_wrap-add_left w64 (a +ℤ b) c ∙ ap (int_wrap w64) (omega (arith, ints)) ∙ sym (int_wrap-add_right w64 a (b +ℤ c))

pub add_i64_comm : (a b : ℤ) → add_i64 a b ≡ add_i64 b a
add_i64_comm a b = ap (int_wrap w64) (omega (arith, ints))

pub add_i64_zero : (a : ℤ) → mag a < 2 ^ 63 → add_i64 a (pos 0) ≡ a
add_i64_zero a h = ap (int_wrap w64) (omega (arith, ints)) ∙ int_wrap_fits w64 a (record { sfits = h })

pub sub_i64_undoes : (a b : ℤ) → mag a < 2 ^ 63 → sub_i64 (add_i64 a b) b ≡ a
sub_i64_undoes a b h = int_wrap-add_left w64 (a +ℤ b) (neg_ℤ b) ∙ ap (int_wrap w64) (omega (arith, ints)) ∙ int_wrap_fits w64 a (record { sfits = h })

-- where the exact sum is small, nothing wraps
pub add64_exact : (a b : ℕ) → Within (2 ^ 62) (pos a +ℤ pos b) → pos (add64 a b) ≡ pos a +ℤ pos b
add64_exact a b h = ap pos (omega (arith, ints))

pub add_i64_exact : (a b : ℤ) → Within (2 ^ 62) (a +ℤ b) → add_i64 a b ≡ a +ℤ b
add_i64_exact a b h = int_wrap_fits w64 (a +ℤ b) (omega (arith, ints))
