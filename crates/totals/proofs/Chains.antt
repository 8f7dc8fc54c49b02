-- Moves one after another.
use Rattle.std.proofs.Common.{◌≡◌, ℕ, ◌+◌, ◌<◌, ◌≤◌, cond, ◌&&◌, eqb, ltb, List, sym, refl, ap, ◌∙◌, ⊎_elim, arith}
use Rattle.std.proofs.lemmas.Bool.{cases_eq, cases_lt, eq-eqb, ne_eqb, lt-ltb, le-ltb, cond-true, cond-false}
use Rattle.amounts.specs.Laws.{Algebra, Laws}
use Rattle.amounts.proofs.Changes.{sums_same}
use Rattle.totals.specs.declared.entry.Entry.{Entry}
use Rattle.totals.specs.Rules.{Rules}
use Rattle.totals.specs.Entry.{part_of}
use Rattle.totals.specs.Holds.{Entries, Holds, Replaced, InPeriod, meters_below, periods_below}

-- one entry of a meter in a period replaced
abbrev pub entry_where : Entries → ℕ → ℕ → Entry → Entries
entry_where entries i period e j p = cond (eqb j i && eqb p period) e (entries j p)

pub with_here : (entries : Entries) (i period : ℕ) (e : Entry) → entry_where entries i period e i period ≡ e
with_here entries i period e = cond-true _ _ _ (ap (λ b. b && eqb period period) (eq-eqb i i refl) ∙ eq-eqb period period refl)

pub with_others : (entries : Entries) (i period : ℕ) (e : Entry) (j p : ℕ) → (j ≡ i → p ≡ period → ⊥) → entry_where entries i period e j p ≡ entries j p
with_others entries i period e j p d = ⊎_elim
    (λ (x : j ≡ i). cond-false _ _ _ (ap (λ b. b && eqb p period) (eq-eqb j i x) ∙ ne_eqb p period (d x)))
    (λ (x : j ≡ i → ⊥). cond-false _ _ _ (ap (λ b. b && eqb p period) (ne_eqb j i x)))
    (cases_eq j i)

-- one number more, of those below which a test holds
below_same : {X : Type 0} (x y : X) (k i : ℕ) → (k ≡ i → x ≡ y) → cond (ltb k (i + 1)) x y ≡ cond (ltb k i) x y
below_same x y k i same = ⊎_elim
    (λ (l : k < i). cond-true _ _ _ (lt-ltb k (i + 1) (omega arith)) ∙ sym (cond-true _ _ _ (lt-ltb k i l)))
    (λ (l : i ≤ k). ⊎_elim
    (λ (e : k ≡ i). cond-true _ _ _ (lt-ltb k (i + 1) (omega arith)) ∙ same e ∙ sym (cond-false _ _ _ (le-ltb k i l)))
    (λ (d : k ≡ i → ⊥). cond-false _ _ _ (le-ltb k (i + 1) (omega arith)) ∙ sym (cond-false _ _ _ (le-ltb k i l)))
    (cases_eq k i))
    (cases_lt k i)

module _ {M : Type 0} {a : Algebra M} (laws : Laws a) (rules : Rules M) (n periods : ℕ) where
  -- the same entries, the same totals
  pub holds_same : (entries next : Entries) (cells : List M) → ((i p : ℕ) → i < n → 1 ≤ p → entries i p ≡ next i p) → Holds a rules entries n periods cells → Holds a rules next n periods cells
  holds_same entries next cells same holds p q h =
      holds p q h ∙ sums_same laws (λ i. part_of a rules (entries i p) q) (λ i. part_of a rules (next i p) q) n (λ i l. ap (λ e. part_of a rules e q) (same i p l h.0))

  -- a loop over meters in one period: it begins with the old entries, replaces those of one meter after another, and ends with the new
  module _ (entries after : Entries) where
    pub meters_none : (cells : List M) → Holds a rules entries n periods cells → Holds a rules (meters_below entries after 0) n periods cells
    meters_none cells = holds_same entries (meters_below entries after 0) cells (λ i p _ _. sym (cond-false _ _ _ (le-ltb i 0 (omega arith))))

    pub meters_more : (period i : ℕ) (cells next : List M) → i < n → ((j p : ℕ) → j < n → 1 ≤ p → (p ≡ period → ⊥) → after j p ≡ entries j p) →
        Replaced a rules periods period (entries i period) (after i period) cells next →
        Holds a rules (meters_below entries after i) n periods cells → Holds a rules (meters_below entries after (i + 1)) n periods next
    meters_more period i cells next within same move =
        move (meters_below entries after i) (meters_below entries after (i + 1)) n i within
        (cond-false _ _ _ (le-ltb i i (omega arith))) (cond-true _ _ _ (lt-ltb i (i + 1) (omega arith)))
        (λ j p l m d. below_same (after j p) (entries j p) j i (λ e. same j p l m (d e)))

    -- a meter whose entry stays
    pub meters_passed : (i : ℕ) (cells : List M) → ((p : ℕ) → 1 ≤ p → after i p ≡ entries i p) →
        Holds a rules (meters_below entries after i) n periods cells → Holds a rules (meters_below entries after (i + 1)) n periods cells
    meters_passed i cells same =
        holds_same (meters_below entries after i) (meters_below entries after (i + 1)) cells
        (λ j p _ l. sym (below_same (after j p) (entries j p) j i (λ e. ap (λ k. after k p) e ∙ same p l ∙ ap (λ k. entries k p) (sym e))))

    pub meters_all : (i : ℕ) (cells : List M) → n ≤ i → Holds a rules (meters_below entries after i) n periods cells → Holds a rules after n periods cells
    meters_all i cells all = holds_same (meters_below entries after i) after cells (λ j p l _. cond-true _ _ _ (lt-ltb j i (omega arith)))

    -- a loop over the periods of one meter
    pub periods_none : (cells : List M) → Holds a rules entries n periods cells → Holds a rules (periods_below entries after 1) n periods cells
    periods_none cells = holds_same entries (periods_below entries after 1) cells (λ i p _ l. sym (cond-false _ _ _ (le-ltb p 1 l)))

    pub periods_more : (meter period : ℕ) (cells next : List M) → meter < n → ((j p : ℕ) → j < n → 1 ≤ p → (j ≡ meter → ⊥) → after j p ≡ entries j p) →
        Replaced a rules periods period (entries meter period) (after meter period) cells next →
        Holds a rules (periods_below entries after period) n periods cells → Holds a rules (periods_below entries after (period + 1)) n periods next
    periods_more meter period cells next within same move =
        move (periods_below entries after period) (periods_below entries after (period + 1)) n meter within
        (cond-false _ _ _ (le-ltb period period (omega arith))) (cond-true _ _ _ (lt-ltb period (period + 1) (omega arith)))
        (λ j p l m d. below_same (after j p) (entries j p) p period (λ e. same j p l m (λ x. d x e)))

    pub periods_all : (i : ℕ) (cells : List M) → periods < i → Holds a rules (periods_below entries after i) n periods cells → Holds a rules after n periods cells
    periods_all i cells past holds p q h =
        let le : p ≤ periods = h.1 in
        holds p q h ∙ sums_same laws (λ k. part_of a rules (periods_below entries after i k p) q) (λ k. part_of a rules (after k p) q) n
        (λ k _. ap (λ e. part_of a rules e q) (cond-true _ _ _ (lt-ltb p i (omega arith))))

module _ {M : Type 0} (a : Algebra M) (rules : Rules M) (periods period : ℕ) (cells next last : List M) where
  -- an entry replaced twice in one period is replaced once
  pub replaced_then : (old middle new : Entry) → Replaced a rules periods period old middle cells next → Replaced a rules periods period middle new next last →
      Replaced a rules periods period old new cells last
  replaced_then old middle new first second entries after n i within was is same holds =
      let between : Entries = entry_where entries i period middle in
      second between after n i within (with_here entries i period middle) is (λ j p l m d. same j p l m d ∙ sym (with_others entries i period middle j p d))
      (first entries between n i within was (with_here entries i period middle) (λ j p _ _ d. with_others entries i period middle j p d) holds)

  -- what stays twice stays
  pub in_period_then : InPeriod a rules periods period cells next → InPeriod a rules periods period next last → InPeriod a rules periods period cells last
  in_period_then first second p q h d = second p q h d ∙ first p q h d
