-- What a grid shows after a put.
use Rattle.std.proofs.Common.{◌≡◌, ℕ, eqb, ◌⊎◌, Some, refl, inl, inr, ⊎_elim}
use Rattle.std.proofs.lemmas.Bool.{cases_eq, eq-eqb, ne_eqb, cond-true, cond-false, and_from, and_left, and_right}
use Rattle.readings.specs.declared.reading.Reading.{Reading}
use Rattle.stores.specs.Grid.{Grid, with_place}

module _ (g : Grid) (m p : ℕ) (r : Reading) where
  -- the place has the reading
  pub place_same : with_place g m p r m p ≡ Some r
  place_same = cond-true _ _ _ (and_from _ _ (eq-eqb m m refl) (eq-eqb p p refl))

  -- every other shows what it showed
  pub place_other : (i j : ℕ) → (i ≡ m → j ≡ p → ⊥) → with_place g m p r i j ≡ g i j
  place_other i j ne = ⊎_elim
      (λ (e : i ≡ m). cond-false _ _ _ (and_right (eqb i m) (eqb j p) (ne_eqb j p (ne e))))
      (λ (d : i ≡ m → ⊥). cond-false _ _ _ (and_left (eqb i m) (eqb j p) (ne_eqb i m d)))
      (cases_eq i m)

  -- it is the one or the other
  pub place_cases : (i j : ℕ) →
      ((i ≡ m) × (j ≡ p) × (with_place g m p r i j ≡ Some r)) ⊎ ((i ≡ m → j ≡ p → ⊥) × (with_place g m p r i j ≡ g i j))
  place_cases i j = ⊎_elim
      (λ (x : i ≡ m). ⊎_elim
      (λ (y : j ≡ p). inl (x, y, cond-true _ _ _ (and_from _ _ (eq-eqb i m x) (eq-eqb j p y))))
      (λ (y : j ≡ p → ⊥). inr (λ _ k. y k, place_other i j (λ _ k. y k)))
      (cases_eq j p))
      (λ (x : i ≡ m → ⊥). inr (λ k _. x k, place_other i j (λ k _. x k)))
      (cases_eq i m)
