-- Sums, and when they lose nothing.
use Rattle.std.specs.Prelude.{◌≡◌, ℕ, zero, suc, ◌^◌, ℤ, pos, ◌+ℤ◌, ◌-ℤ◌, neg_ℤ, ◌≤ℤ◌}
use Rattle.amounts.specs.Laws.{Algebra}

-- f 0, f 1, .. up to n of them, added up from zero
abbrev pub sums : {M : Type 0} → Algebra M → (ℕ → M) → ℕ → M
sums a f zero = a.zero
sums a f (suc n) = a.plus (sums a f n) (f n)

-- whole numbers as amounts
abbrev pub whole : Algebra ℤ
whole = record { zero = pos 0; plus = ◌+ℤ◌; minus = ◌-ℤ◌ }

-- a whole number between -b and b
abbrev pub Within : ℕ → ℤ → Type 0
Within b z = (neg_ℤ (pos b) ≤ℤ z) × (z ≤ℤ pos b)

-- the figures of amounts, by number: zero has none, and a sum adds them exactly as long as they stay within 2 ^ 62
pub record Exact {M : Type 0} (a : Algebra M) (figure : M → ℕ → ℤ) : Type 0 where
  pub nothing : (k : ℕ) → figure a.zero k ≡ pos 0
  pub adds : (x y : M) (k : ℕ) → Within (2 ^ 62) (figure x k +ℤ figure y k) → figure (a.plus x y) k ≡ figure x k +ℤ figure y k
