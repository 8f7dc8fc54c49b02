-- A table of factors or shapes with one entry set.
use Rattle.std.proofs.Common.{◌≡◌, ℕ, ◌-◌, ◌/◌, ◌%◌, ◌<◌, ◌≤◌, Bool, true, false, cond, ◌&&◌, leb, List, length, get_or, Some, None, Option, sym, refl, ap, ◌∙◌, arith, get_or-set_other, get_or-set_same}
use Rattle.std.proofs.lemmas.Nat.{div-mul-add, mod-mul-add}
use Rattle.std.proofs.lemmas.Bool.{cond-true, and_from, and_parts, leb-true, le-leb}
use Rattle.rules.specs.Tables.{entry_cell, entry_in}
use Rattle.engine.specs.Revision.{with_entry}

-- the test that there are such a class and period
abbrev there : ℕ → ℕ → ℕ → Bool
there classes k p = leb 1 k && (leb k classes && leb 1 p)

-- two entries that lie at one place are of one class and one period
same_period : (w k p i j : ℕ) → 1 ≤ k → k ≤ w → 1 ≤ p → 1 ≤ i → i ≤ w → 1 ≤ j → entry_cell w i j ≡ entry_cell w k p → j ≡ p
same_period w k p i j k1 kw p1 i1 iw j1 e =
    let same : j - 1 ≡ p - 1 = sym (div-mul-add (j - 1) w (i - 1) (omega arith)) ∙ ap (λ n. n / w) e ∙ div-mul-add (p - 1) w (k - 1) (omega arith) in
    omega arith

same_class : (w k p i j : ℕ) → 1 ≤ k → k ≤ w → 1 ≤ i → i ≤ w → entry_cell w i j ≡ entry_cell w k p → i ≡ k
same_class w k p i j k1 kw i1 iw e =
    let same : i - 1 ≡ k - 1 = sym (mod-mul-add (j - 1) w (i - 1) (omega arith)) ∙ ap (λ n. n % w) e ∙ mod-mul-add (p - 1) w (k - 1) (omega arith) in
    omega arith

module _ (classes : ℕ) (table : List (Option ℕ)) (k p v : ℕ) (k1 : 1 ≤ k) (kc : k ≤ classes) (p1 : 1 ≤ p) where
  -- the entry that was set
  pub set_entry : entry_cell classes k p < length table → entry_in classes (with_entry classes table k p v) k p ≡ Some v
  set_entry within =
      cond-true (there classes k p) _ _ (and_from (leb 1 k) _ (le-leb 1 k k1) (and_from (leb k classes) (leb 1 p) (le-leb k classes kc) (le-leb 1 p p1)))
      ∙ get_or-set_same table (entry_cell classes k p) (Some v) None within

  -- every other entry
  pub set_others : (i j : ℕ) → (i ≡ k → j ≡ p → ⊥) → entry_in classes (with_entry classes table k p v) i j ≡ entry_in classes table i j
  set_others i j ne = by (there classes i j) refl
    where
      by : (t : Bool) → there classes i j ≡ t → cond t (get_or (with_entry classes table k p v) (entry_cell classes i j) None) None ≡ cond t (get_or table (entry_cell classes i j) None) None
      by false e = refl
      by true e =
          let parts = and_parts (leb 1 i) (leb i classes && leb 1 j) e in
          let rest = and_parts (leb i classes) (leb 1 j) parts.1 in
          let i1 = leb-true 1 i parts.0 in
          let ic = leb-true i classes rest.0 in
          let j1 = leb-true 1 j rest.1 in
          get_or-set_other table (entry_cell classes k p) (entry_cell classes i j) (Some v) None
          (λ h. ne (same_class classes k p i j k1 kc i1 ic h) (same_period classes k p i j k1 kc p1 i1 ic j1 h))
