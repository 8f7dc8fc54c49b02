-- The lowest number of two sets, one after the other or side by side, and of more and more.
use Rattle.std.proofs.Common.{◌≡◌, ℕ, zero, suc, ◌+◌, ◌-◌, ◌<◌, ◌≤◌, min, ◌⊎◌, Some, None, Option, Result, sym, refl, subst, inl, inr, ⊎_elim, arith}
use Rattle.std.proofs.lemmas.Bool.{cases_eq, cases_lt}
use Rattle.market.specs.declared.refusal.Refusal.{Refusal}
use Rattle.market.specs.Lowest.{Lowest, turned_down}
use Rattle.rules.specs.Joined.{lower, Among, LowestOf}

-- the same set has the same lowest number
pub lowest_same : (P Q : ℕ → Type 0) (a : Option ℕ) → ((n : ℕ) → P n → Q n) → ((n : ℕ) → Q n → P n) → Lowest P a → Lowest Q a
lowest_same P Q None to from h = λ k q. h k (from k q)
lowest_same P Q (Some n) to from h = (to n h.0, λ k l q. h.1 k l (from k q))

-- of two sets
pub lowest_or : (P Q : ℕ → Type 0) (a b : Option ℕ) → Lowest P a → Lowest Q b → Lowest (λ n. P n ⊎ Q n) (lower a b)
lowest_or P Q None None h k = λ n. ⊎_elim (h n) (k n)
lowest_or P Q None (Some n) h k = (inr k.0, λ i l. ⊎_elim (h i) (k.1 i l))
lowest_or P Q (Some m) None h k = (inl h.0, λ i l. ⊎_elim (h.1 i l) (k i))
lowest_or P Q (Some m) (Some n) h k = ⊎_elim
    (λ (l : m < n).
    let e : m ≡ min m n = omega arith in
    (inl (subst P e h.0), λ i j. ⊎_elim (h.1 i (omega arith)) (k.1 i (omega arith))))
    (λ (l : n ≤ m).
    let e : n ≡ min m n = omega arith in
    (inr (subst Q e k.0), λ i j. ⊎_elim (h.1 i (omega arith)) (k.1 i (omega arith))))
    (cases_lt m n)

-- of two sets where the first has a number that is below all of the second
pub lowest_before : (P Q : ℕ → Type 0) (n : ℕ) → Lowest P (Some n) → ((k : ℕ) → Q k → n < k) → Lowest (λ k. P k ⊎ Q k) (Some n)
lowest_before P Q n h after = (inl h.0, λ i l. ⊎_elim (h.1 i l) (λ q. let late = after i q in omega arith))

-- of two sets where the first is empty
pub lowest_after : (P Q : ℕ → Type 0) (a : Option ℕ) → Lowest P None → Lowest Q a → Lowest (λ k. P k ⊎ Q k) a
lowest_after P Q None h k = λ n. ⊎_elim (h n) (k n)
lowest_after P Q (Some n) h k = (inr k.0, λ i l. ⊎_elim (h i) (k.1 i l))

-- of one more
pub among_more : (B : ℕ → ℕ → Type 0) (i : ℕ) (a b : Option ℕ) → Lowest (Among i B) a → Lowest (B (i + 1)) b → Lowest (Among (i + 1) B) (lower a b)
among_more B i a b h k = lowest_same (λ n. Among i B n ⊎ B (i + 1) n) (Among (i + 1) B) (lower a b)
    (λ n. ⊎_elim (λ x. let up : x.0 ≤ i = x.1.1 in (x.0, (x.1.0, omega arith, x.1.2))) (λ x. (i + 1, (omega arith, omega arith, x))))
    (λ n x. let low : 1 ≤ x.0 = x.1.0 in let up : x.0 ≤ i + 1 = x.1.1 in ⊎_elim
    (λ (e : x.0 ≡ i + 1). inr (subst (λ m. B m n) e x.1.2))
    (λ (ne : x.0 ≡ i + 1 → ⊥). inl (x.0, (low, omega arith, x.1.2)))
    (cases_eq x.0 (i + 1)))
    (lowest_or (Among i B) (B (i + 1)) a b h k)

-- of the checks 1 to k: where each answers with the lowest number of its set
pub lowest_of : (post : ℕ → Result (Unit {0}) Refusal → Type 0) (B : ℕ → ℕ → Type 0) (k : ℕ) (n : Option ℕ) →
    LowestOf post k n → ((i : ℕ) (a : Result (Unit {0}) Refusal) → 1 ≤ i → i ≤ k → post i a → Lowest (B i) (turned_down a)) → Lowest (Among k B) n
lowest_of post B zero n e h =
    subst (Lowest (Among 0 B)) (sym e) (λ j x. let low : 1 ≤ x.0 = x.1.0 in let up : x.0 ≤ 0 = x.1.1 in omega arith)
lowest_of post B (suc k) n x h =
    let next : k + 1 ≡ suc k = omega arith in
    subst (Lowest (Among (suc k) B)) (sym x.1.1.2)
    (subst (λ i. Lowest (Among i B) (lower x.0 (turned_down x.1.0))) next
    (among_more B k x.0 (turned_down x.1.0)
    (lowest_of post B k x.0 x.1.1.0 (λ i a l u. h i a l (omega arith)))
    (subst (λ i. Lowest (B i) (turned_down x.1.0)) (sym next) (h (suc k) x.1.0 (omega arith) (omega arith) x.1.1.1))))

-- of the checks 1 to k, and of one more
pub lowest_more : (post : ℕ → Result (Unit {0}) Refusal → Type 0) (k : ℕ) (a : Option ℕ) (b : Result (Unit {0}) Refusal) →
    LowestOf post k a → post (k + 1) b → LowestOf post (k + 1) (lower a (turned_down b))
lowest_more post k a b h x =
    let next : suc k ≡ k + 1 = omega arith in
    subst (λ i. LowestOf post i (lower a (turned_down b))) next (a, (b, (h, subst (λ i. post i b) (sym next) x, refl)))

-- the same, by the number of the one that is added
pub lowest_next : (post : ℕ → Result (Unit {0}) Refusal → Type 0) (p : ℕ) (a : Option ℕ) (b : Result (Unit {0}) Refusal) → 1 ≤ p →
    LowestOf post (p - 1) a → post p b → LowestOf post p (lower a (turned_down b))
lowest_next post p a b some h x =
    let back : p - 1 + 1 ≡ p = omega arith in
    subst (λ i. LowestOf post i (lower a (turned_down b))) back (lowest_more post (p - 1) a b h (subst (λ i. post i b) (sym back) x))
