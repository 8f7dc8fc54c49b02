-- A sum with one of its members replaced.
use Rattle.std.proofs.Common.{◌≡◌, ℕ, zero, suc, ◌<◌, cond, eqb, sym, refl, ap, ◌∙◌, ⊎_elim, arith}
use Rattle.std.proofs.lemmas.Bool.{cases_eq, eq-eqb, ne_eqb, cond-true, cond-false}
use Rattle.amounts.specs.Laws.{Algebra, Laws}
use Rattle.amounts.specs.Sums.{sums}

module _ {M : Type 0} {a : Algebra M} (laws : Laws a) where
  -- the same members, the same sum
  pub sums_same : (f g : ℕ → M) (n : ℕ) → ((k : ℕ) → k < n → f k ≡ g k) → sums a f n ≡ sums a g n
  sums_same f g zero h = refl
  sums_same f g (suc n) h = let before = sums_same f g n (λ k l. h k (omega arith)) in let last = h n (omega arith) in cc

  -- the last two may change places
  turn : (x y z : M) → a.plus (a.plus x y) z ≡ a.plus (a.plus x z) y
  turn x y z = laws.assoc x y z ∙ ap (a.plus x) (laws.comm y z) ∙ sym (laws.assoc x z y)

  -- two sums that differ in one member, each with the other's member
  crossed : (f g : ℕ → M) (i n : ℕ) → i < n → ((k : ℕ) → k < n → (k ≡ i → ⊥) → f k ≡ g k) → a.plus (sums a f n) (g i) ≡ a.plus (sums a g n) (f i)
  crossed f g i zero l h = absurd (omega arith)
  crossed f g i (suc n) l h = ⊎_elim here (λ d. there d (crossed f g i n (omega arith) (λ k m. h k (omega arith)))) (cases_eq i n)
    where
      here : i ≡ n → a.plus (sums a f (suc n)) (g i) ≡ a.plus (sums a g (suc n)) (f i)
      here e =
          let before = sums_same f g n (λ k m. h k (omega arith) (λ d. omega arith)) in
          ap (λ x. a.plus (a.plus x (f n)) (g i)) before
          ∙ ap (λ j. a.plus (a.plus (sums a g n) (f n)) (g j)) e
          ∙ turn (sums a g n) (f n) (g n)
          ∙ ap (λ j. a.plus (a.plus (sums a g n) (g n)) (f j)) (sym e)

      there : (i ≡ n → ⊥) → a.plus (sums a f n) (g i) ≡ a.plus (sums a g n) (f i) → a.plus (sums a f (suc n)) (g i) ≡ a.plus (sums a g (suc n)) (f i)
      there d before =
          let last = h n (omega arith) (λ e. d (sym e)) in
          turn (sums a f n) (f n) (g i) ∙ ap (λ x. a.plus x (f n)) before ∙ turn (sums a g n) (f i) (f n) ∙ ap (λ x. a.plus (a.plus (sums a g n) x) (f i)) last

  -- one member replaced: the old one is taken away, and the new one added
  pub sums_replaced : (f g : ℕ → M) (i n : ℕ) → i < n → ((k : ℕ) → k < n → (k ≡ i → ⊥) → f k ≡ g k) → a.plus (a.minus (sums a f n) (f i)) (g i) ≡ sums a g n
  sums_replaced f g i n l h =
      let rest : ℕ → M = λ k. cond (eqb k i) a.zero (f k) in
      let gone : rest i ≡ a.zero = cond-true (eqb i i) a.zero (f i) (eq-eqb i i refl) in
      let out : a.plus (sums a f n) (rest i) ≡ a.plus (sums a rest n) (f i) = crossed f rest i n l (λ k m d. sym (cond-false (eqb k i) a.zero (f k) (ne_eqb k i d))) in
      let into : a.plus (sums a rest n) (g i) ≡ a.plus (sums a g n) (rest i) = crossed rest g i n l (λ k m d. cond-false (eqb k i) a.zero (f k) (ne_eqb k i d) ∙ h k m d) in
      let whole : sums a f n ≡ a.plus (sums a rest n) (f i) = sym (laws.neutral _) ∙ ap (a.plus (sums a f n)) (sym gone) ∙ out in
      ap (λ x. a.plus (a.minus x (f i)) (g i)) whole ∙ ap (λ x. a.plus x (g i)) (laws.undoes _ _) ∙ into ∙ ap (a.plus (sums a g n)) gone ∙ laws.neutral _
