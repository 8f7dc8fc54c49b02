-- A table filled from nothing, meter by meter and period by period.
use Rattle.std.proofs.Common.{◌≡◌, ℕ, ◌+◌, ◌<◌, ◌≤◌, Bool, true, false, cond, eqb, ltb, List, sym, refl, ap, ◌∙◌, ⊎_elim, arith}
use Rattle.std.proofs.lemmas.Bool.{eqb-true, eqb-false, cases_lt, lt-ltb, le-ltb, cond-true, cond-false}
use Rattle.amounts.specs.Laws.{Algebra, Laws}
use Rattle.amounts.proofs.Exactly.{sums_more}
use Rattle.totals.specs.declared.totals.Totals.{Totals}
use Rattle.totals.specs.declared.entry.Entry.{Entry}
use Rattle.totals.specs.Rules.{Rules}
use Rattle.totals.specs.Entry.{part_of}
use Rattle.totals.specs.Table.{HasTotal, total_at, total_in, SameTable, Cleared}
use Rattle.totals.specs.Moves.{Shifted}
use Rattle.totals.specs.Holds.{Entries, total_of, Holds}
use Rattle.totals.specs.Settling.{Added, Raised, Filled}

same_then : {M : Type 0} (t u v : Totals M) → SameTable t u → SameTable u v → SameTable t v
same_then t u v h k = (k.0 ∙ h.0, k.1 ∙ h.1, k.2 ∙ h.2)

-- what the entries of n meters bring has been added to the totals of the periods below i
abbrev pub RaisedBelow : {M : Type 0} → Algebra M → Rules M → Entries → ℕ → ℕ → Totals M → Totals M → Type 0
RaisedBelow a rules entries n i before after =
    SameTable before after
    × ((p q : ℕ) → HasTotal before.periods before.places p q →
    total_in a.zero after p q ≡ cond (ltb p i) (a.plus (total_in a.zero before p q) (total_of a rules entries n p q)) (total_in a.zero before p q))

module _ {M : Type 0} {a : Algebra M} (laws : Laws a) (rules : Rules M) (entries : Entries) where
  pub added_none : (period : ℕ) (t : Totals M) → Added a rules entries period 0 t t
  added_none period t = record { same = (refl, refl, refl); totals = λ p q h. by p q (eqb p period) }
    where
      by : (p q : ℕ) (b : Bool) → total_in a.zero t p q ≡ cond b (a.plus (total_in a.zero t p q) a.zero) (total_in a.zero t p q)
      by p q true = sym (laws.neutral _)
      by p q false = refl

  -- one meter more
  pub added_more : (period n : ℕ) (e : Entry) (t u v : Totals M) → e ≡ entries n period → Added a rules entries period n t u →
      Shifted a period (λ q total. a.plus total (part_of a rules e q)) u v → Added a rules entries period (n + 1) t v
  added_more period n e t u v is before last = record { same = same_then t u v before.same last.same; totals = totals }
    where
      totals : (p q : ℕ) → HasTotal t.periods t.places p q →
          total_in a.zero v p q ≡ cond (eqb p period) (a.plus (total_in a.zero t p q) (total_of a rules entries (n + 1) period q)) (total_in a.zero t p q)
      totals p q h =
          let there : HasTotal u.periods u.places p q = (h.0, rw before.same.1 h.1, rw before.same.2 h.2) in
          by (eqb p period) (before.totals p q h) (last.totals p q there)
        where
          by : (b : Bool) → total_in a.zero u p q ≡ cond b (a.plus (total_in a.zero t p q) (total_of a rules entries n period q)) (total_in a.zero t p q) →
              total_in a.zero v p q ≡ cond b (a.plus (total_in a.zero u p q) (part_of a rules e q)) (total_in a.zero u p q) →
              total_in a.zero v p q ≡ cond b (a.plus (total_in a.zero t p q) (total_of a rules entries (n + 1) period q)) (total_in a.zero t p q)
          by true x y =
              y ∙ ap (λ z. a.plus z (part_of a rules e q)) x
              ∙ laws.assoc _ _ _
              ∙ ap (λ z. a.plus (total_in a.zero t p q) (a.plus (total_of a rules entries n period q) (part_of a rules z q))) is
              ∙ ap (λ z. a.plus (total_in a.zero t p q) z) (sym (sums_more a (λ k. part_of a rules (entries k period) q) n))
          by false x y = y ∙ x

  module _ (n : ℕ) where
    pub raised_none : (t : Totals M) → RaisedBelow a rules entries n 1 t t
    raised_none t = ((refl, refl, refl), λ p q h. sym (cond-false _ _ _ (le-ltb p 1 h.0)))

    -- one period more
    pub raised_more : (i : ℕ) (t u v : Totals M) → RaisedBelow a rules entries n i t u → Added a rules entries i n u v → RaisedBelow a rules entries n (i + 1) t v
    raised_more i t u v before last = (same_then t u v before.0 last.same, totals)
      where
        totals : (p q : ℕ) → HasTotal t.periods t.places p q →
            total_in a.zero v p q ≡ cond (ltb p (i + 1)) (a.plus (total_in a.zero t p q) (total_of a rules entries n p q)) (total_in a.zero t p q)
        totals p q h =
            let there : HasTotal u.periods u.places p q = (h.0, rw before.0.1 h.1, rw before.0.2 h.2) in
            by (eqb p i) refl (before.1 p q h) (last.totals p q there)
          where
            by : (b : Bool) → eqb p i ≡ b → total_in a.zero u p q ≡ cond (ltb p i) (a.plus (total_in a.zero t p q) (total_of a rules entries n p q)) (total_in a.zero t p q) →
                total_in a.zero v p q ≡ cond b (a.plus (total_in a.zero u p q) (total_of a rules entries n i q)) (total_in a.zero u p q) →
                total_in a.zero v p q ≡ cond (ltb p (i + 1)) (a.plus (total_in a.zero t p q) (total_of a rules entries n p q)) (total_in a.zero t p q)
            by true e x y =
                let here : p ≡ i = eqb-true p i e in
                y ∙ ap (λ z. a.plus z (total_of a rules entries n i q)) (x ∙ cond-false _ _ _ (le-ltb p i (omega arith)))
                ∙ ap (λ r. a.plus (total_in a.zero t p q) (total_of a rules entries n r q)) (sym here)
                ∙ sym (cond-true _ _ _ (lt-ltb p (i + 1) (omega arith)))
            by false e x y = ⊎_elim
                (λ (l : p < i). y ∙ x ∙ cond-true _ _ _ (lt-ltb p i l) ∙ sym (cond-true _ _ _ (lt-ltb p (i + 1) (omega arith))))
                (λ (l : i ≤ p). y ∙ x ∙ cond-false _ _ _ (le-ltb p i l) ∙ sym (cond-false _ _ _ (le-ltb p (i + 1) (let d : p ≡ i → ⊥ = eqb-false p i e in omega arith))))
                (cases_lt p i)

    -- all periods
    pub raised_all : (i : ℕ) (t u : Totals M) → t.periods < i → RaisedBelow a rules entries n i t u → Raised a rules entries n t u
    raised_all i t u past below = record {
      same = below.0;
      totals = λ p q h. below.1 p q h ∙ cond-true _ _ _ (lt-ltb p i (let le : p ≤ t.periods = h.1 in omega arith));
    }

    -- from nothing
    pub filled : (s t u : Totals M) → Cleared a.zero s t → Raised a rules entries n t u → Filled a rules entries n s u
    filled s t u cleared raised = record {
      same = same_then s t u cleared.0 raised.same;
      totals = λ p q h.
          raised.totals p q (h.0, rw cleared.0.1 h.1, rw cleared.0.2 h.2)
          ∙ ap (λ z. a.plus z (total_of a rules entries n p q)) (cleared.1 _)
          ∙ laws.comm _ _ ∙ laws.neutral _;
    }

    -- what fills a table fills the amounts that it lies over
    pub holds_in : (periods : ℕ) (before after : Totals M) (next : List M) → before.periods ≡ periods → before.places ≡ rules.places → next ≡ after.cells.now →
        Filled a rules entries n before after → Holds a rules entries n periods next
    holds_in periods before after next many wide is whole p q h =
        let wide' : after.places ≡ rules.places = whole.same.2 ∙ wide in
        let last : total_at a.zero rules.places next p q ≡ total_in a.zero after p q = cc in
        last ∙ whole.totals p q (h.0, rw many h.1, rw wide h.2)
