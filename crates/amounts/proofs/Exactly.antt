-- A sum of few and small amounts loses nothing.
use Rattle.std.proofs.Common.{◌≡◌, ℕ, zero, suc, ◌+◌, ◌*◌, ◌^◌, ◌<◌, ◌≤◌, ℤ, ◌+ℤ◌, ap, ◌∙◌, add-mul, add-one, arith}
use Rattle.std.proofs.lemmas.Int.{ints}
use Rattle.amounts.specs.Laws.{Algebra}
use Rattle.amounts.specs.Sums.{sums, whole, Within, Exact}

-- one member more
pub sums_more : {M : Type 0} (a : Algebra M) (f : ℕ → M) (n : ℕ) → sums a f (n + 1) ≡ a.plus (sums a f n) (f n)
sums_more a f n = rw (add-one n)

within_more : (n b : ℕ) (s z : ℤ) → Within (n * b) s → Within b z → Within (suc n * b) (s +ℤ z)
within_more n b s z h k = (omega (arith, ints, add-mul n 1 b), omega (arith, ints, add-mul n 1 b))

module _ {M : Type 0} {a : Algebra M} {figure : M → ℕ → ℤ} (exact : Exact a figure) where
  exact_sums : (f : ℕ → M) (k b n : ℕ) → n * b ≤ 2 ^ 62 → ((i : ℕ) → i < n → Within b (figure (f i) k)) →
      (figure (sums a f n) k ≡ sums whole (λ i. figure (f i) k) n) × Within (n * b) (sums whole (λ i. figure (f i) k) n)
  exact_sums f k b zero h w = (exact.nothing k, (omega (arith, ints), omega (arith, ints)))
  exact_sums f k b (suc n) h w =
      let before = exact_sums f k b n (omega (arith, add-mul n 1 b)) (λ i l. w i (omega arith)) in
      let last = w n (omega arith) in
      let all = within_more n b (sums whole (λ i. figure (f i) k) n) (figure (f n) k) before.1 last in
      let same = before.0 in
      let small : Within (2 ^ 62) (figure (sums a f n) k +ℤ figure (f n) k) = (omega (arith, ints), omega (arith, ints)) in
      (exact.adds _ _ k small ∙ ap (λ z. z +ℤ figure (f n) k) same, all)

  -- at most 4,096 amounts, each figure within 2 ^ 50: 2 ^ 12 times 2 ^ 50 is 2 ^ 62
  pub exact_4096 : (f : ℕ → M) (k n : ℕ) → n ≤ 4096 → ((i : ℕ) → i < n → Within (2 ^ 50) (figure (f i) k)) →
      figure (sums a f n) k ≡ sums whole (λ i. figure (f i) k) n
  exact_4096 f k n h w = (exact_sums f k (2 ^ 50) n (omega arith) w).0
