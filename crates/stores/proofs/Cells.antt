-- The grid of cells that were written or blanked.
use Rattle.std.proofs.Common.{◌≡◌, ℕ, ◌+◌, ◌*◌, ◌/◌, ◌<◌, ◌≤◌, Bool, true, false, cond, ◌&&◌, eqb, List, length, get_or, take, drop, replicate, ◌++◌, Some, None, Option, sym, refl, ap, ◌∙◌, ⊎_elim, mul-le-mul_right, mul_assoc, add-mul, arith}
use Rattle.std.proofs.lemmas.List.{length-append, length-drop, length-take-le, length-replicate, get_or_append_left, get_or-replicate}
use Rattle.std.proofs.lemmas.Bool.{cases_Bool, cases_eq, cond-true, cond-false, eq-eqb, ne_eqb, and_from, and_left, and_right}
use Rattle.std.proofs.lemmas.Bool.Decides.{nat_tests}
use Rattle.readings.specs.declared.reading.Reading.{Reading}
use Rattle.stores.specs.Grid.{with_place, Inside}
use Rattle.stores.specs.Date.{place_of, is_inside}
use Rattle.stores.specs.Layout.{HasPlace, LayoutLaws, meters_in, grid_in, blanked}

pub bounds : (ms m p : ℕ) → is_inside ms m p ≡ true → Inside ms 48 m p
bounds ms m p h = grind (arith, nat_tests)

-- the cells of the meters are among those that there are
room : (cells n : ℕ) → 1 ≤ cells → meters_in cells n * 48 * cells ≤ n
room cells n some =
    let few : meters_in cells n ≤ n / (48 * cells) = omega arith in
    let all : meters_in cells n * (48 * cells) ≤ n / (48 * cells) * (48 * cells) = mul-le-mul_right (48 * cells) few in
    let within : n / (48 * cells) * (48 * cells) ≤ n = omega arith in
    omega (arith, mul_assoc (meters_in cells n) 48 cells)

-- and a place of theirs ends among them
ends : (cells ms k : ℕ) → k < ms * 48 → k * cells + cells ≤ ms * 48 * cells
ends cells ms k h =
    let next : k + 1 ≤ ms * 48 = omega arith in
    omega (arith, mul-le-mul_right cells next, add-mul k 1 cells)

pub held : (cells n k : ℕ) → 1 ≤ cells → k < meters_in cells n * 48 → HasPlace cells n k
held cells n k some h = let all = room cells n some in let mine = ends cells (meters_in cells n) k h in omega arith

below : (ms m p : ℕ) → is_inside ms m p ≡ true → place_of m p < ms * 48
below ms m p h = grind (arith, nat_tests)

module _ {C : Type 0} {cells : ℕ} {blank : C} {shown : List C → ℕ → Option Reading} {written : List C → ℕ → Reading → List C} (laws : LayoutLaws cells blank shown written) where
  module _ (cs : List C) (m p : ℕ) (r : Reading) (h : is_inside (meters_in cells (length cs)) m p ≡ true) (i j : ℕ) where
    abbrev ms : ℕ
    ms = meters_in cells (length cs)

    pub here : HasPlace cells (length cs) (place_of m p)
    here = held cells (length cs) (place_of m p) laws.some (below ms m p h)

    abbrev after : Option Reading
    after = cond (is_inside ms i j) (shown (written cs (place_of m p) r) (place_of i j)) None

    same : i ≡ m → j ≡ p → after ≡ with_place (grid_in cells shown cs) m p r i j
    same e f =
        rw (e, f) (
        cond-true (is_inside ms m p) _ None h
        ∙ laws.back cs (place_of m p) r here
        ∙ sym (cond-true (eqb m m && eqb p p) (Some r) (grid_in cells shown cs m p) (and_from (eqb m m) (eqb p p) (eq-eqb m m refl) (eq-eqb p p refl))))

    apart : (i ≡ m → j ≡ p → ⊥) → is_inside ms i j ≡ true → place_of i j ≡ place_of m p → ⊥
    apart ne t e =
        let a = bounds ms m p h in
        let b = bounds ms i j t in
        ne (omega arith) (omega arith)

    other : (i ≡ m → j ≡ p → ⊥) → (eqb i m && eqb j p) ≡ false → after ≡ with_place (grid_in cells shown cs) m p r i j
    other ne f =
        ⊎_elim
        (λ t.
        cond-true (is_inside ms i j) _ None t
        ∙ laws.elsewhere cs (place_of m p) (place_of i j) r here (held cells (length cs) (place_of i j) laws.some (below ms i j t)) (apart ne t)
        ∙ sym (cond-true (is_inside ms i j) (shown cs (place_of i j)) None t))
        (λ u. cond-false (is_inside ms i j) _ None u ∙ sym (cond-false (is_inside ms i j) (shown cs (place_of i j)) None u))
        (cases_Bool (is_inside ms i j))
        ∙ sym (cond-false (eqb i m && eqb j p) (Some r) (grid_in cells shown cs i j) f)

    -- the grid after a write: with the reading at the place that was written, and as it was at any other
    pub grid_written : grid_in cells shown (written cs (place_of m p) r) i j ≡ with_place (grid_in cells shown cs) m p r i j
    grid_written =
        rw (laws.size cs (place_of m p) r here)
        (⊎_elim
        (λ e. ⊎_elim (λ f. same e f) (λ f. other (λ _ g. f g) (and_right (eqb i m) (eqb j p) (ne_eqb j p f))) (cases_eq j p))
        (λ e. other (λ g _. e g) (and_left (eqb i m) (eqb j p) (ne_eqb i m e)))
        (cases_eq i m))

  length_blanked : (cs : List C) → length (blanked cells blank cs) ≡ length cs
  length_blanked cs = let all = room cells (length cs) laws.some in simp (length-append, length-replicate, length-drop) (omega arith)

  -- the cells of a store whose first cells were made blank
  pub opened : (cs bs : List C) (n : ℕ) → n ≡ meters_in cells (length cs) * 48 * cells → bs ≡ replicate (length (take n cs)) blank →
      bs ++ drop n cs ≡ blanked cells blank cs
  opened cs bs n e f =
      let all : n ≤ length cs = omega (arith, room cells (length cs) laws.some) in
      ap (λ xs. xs ++ drop n cs) (f ∙ ap (λ k. replicate k blank) (length-take-le n cs all)) ∙ ap (λ k. replicate k blank ++ drop k cs) e

  -- a store that was just opened shows nothing
  pub blank_grid : (cs : List C) (i j : ℕ) → grid_in cells shown (blanked cells blank cs) i j ≡ None
  blank_grid cs i j = rw (length_blanked cs) (⊎_elim
      (λ t. cond-true (is_inside (meters_in cells (length cs)) i j) _ None t
      ∙ laws.nothing (blanked cells blank cs) (place_of i j)
      (rw (length_blanked cs) (held cells (length cs) (place_of i j) laws.some (below _ i j t)))
      (λ c l. cell (place_of i j) c (below _ i j t) l))
      (λ u. cond-false (is_inside (meters_in cells (length cs)) i j) _ None u)
      (cases_Bool (is_inside (meters_in cells (length cs)) i j)))
    where
      cell : (k c : ℕ) → k < meters_in cells (length cs) * 48 → c < cells → get_or (blanked cells blank cs) (k * cells + c) blank ≡ blank
      cell k c h l =
          let n = meters_in cells (length cs) * 48 * cells in
          let mine : k * cells + c < n = let end = ends cells (meters_in cells (length cs)) k h in omega arith in
          get_or_append_left (replicate n blank) (drop n cs) blank (k * cells + c) (simp length-replicate mine) ∙ get_or-replicate n (k * cells + c) blank blank mine

-- what a look-up of a place tells where it found one
pub found_place : (b : Bool) (o x : ℕ) → Some o ≡ cond b (Some x) None → (b ≡ true) × (o ≡ x)
found_place true o x e = (refl, cc)
found_place false o x e = let z : ◌≡◌ {A = ℕ} 0 1 = cc in absurd (omega arith)
