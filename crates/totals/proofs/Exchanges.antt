-- The totals after one entry took the place of another.
use Rattle.std.proofs.Common.{◌≡◌, ℕ, Bool, true, false, cond, eqb, ◌⊎◌, List, Some, None, Option, unwrap_or, sym, refl, ap, ◌∙◌, inl, inr, ⊎_elim}
use Rattle.std.proofs.lemmas.Bool.{eqb-true, eqb-false, ne_eqb, cases_eq, cond-false}
use Rattle.meters.specs.declared.row.MeterRow.{MeterRow}
use Rattle.meters.specs.declared.used.UsedReading.{UsedReading}
use Rattle.meters.specs.Lawful.{is_lawful}
use Rattle.amounts.specs.Laws.{Algebra, Laws}
use Rattle.amounts.proofs.Changes.{sums_same, sums_replaced}
use Rattle.totals.specs.declared.totals.Totals.{Totals}
use Rattle.totals.specs.declared.entry.Entry.{Entry}
use Rattle.totals.specs.Rules.{Rules}
use Rattle.totals.specs.Entry.{names, lawful_part, part_of}
use Rattle.totals.specs.Table.{HasTotal, total_at, total_in}
use Rattle.totals.specs.Moves.{Shifted}
use Rattle.totals.specs.Holds.{Entries, total_of, Exchanged, Replaced, AtMostTwo, InPeriod}
use Rattle.totals.specs.Moving.{Move}

module _ {M : Type 0} {a : Algebra M} (laws : Laws a) (rules : Rules M) where
  -- the place that an entry names, if it brings anything
  spot_of : MeterRow → Option UsedReading → ℕ
  spot_of m None = 0
  spot_of m (Some u) = unwrap_or (rules.place m u) 0

  lawful_spot : (m : MeterRow) (u : Option UsedReading) (f : Option ℕ) (q : ℕ) → (lawful_part a rules m u f q ≡ a.zero) ⊎ (q ≡ spot_of m u)
  unfolding spot_of
  lawful_spot m None f q = inl refl
  lawful_spot m (Some u) None q = inl refl
  lawful_spot m (Some u) (Some f) q = by (rules.place m u) refl
    where
      by : (o : Option ℕ) → rules.place m u ≡ o → (cond (names (rules.place m u) q) (rules.amount m u f) a.zero ≡ a.zero) ⊎ (q ≡ unwrap_or (rules.place m u) 0)
      by None e = inl (ap (λ o. cond (names o q) (rules.amount m u f) a.zero) e)
      by (Some k) e = ⊎_elim
          (λ (x : k ≡ q). inr (sym x ∙ sym (ap (λ o. unwrap_or o 0) e)))
          (λ (x : k ≡ q → ⊥). inl (ap (λ o. cond (names o q) (rules.amount m u f) a.zero) e ∙ cond-false _ _ _ (ne_eqb k q x)))
          (cases_eq k q)

  -- an entry brings something to one place at most
  part_spot : (e : Entry) (q : ℕ) → (part_of a rules e q ≡ a.zero) ⊎ (q ≡ spot_of e.row e.used)
  part_spot e q = by (is_lawful e.row) (lawful_spot e.row e.used e.factor q)
    where
      by : {x : M} {Q : Type 0} (b : Bool) → (x ≡ a.zero) ⊎ Q → (cond b x a.zero ≡ a.zero) ⊎ Q
      by true h = h
      by false h = inl refl

  -- what meter k brings to place q in period p
  abbrev part_at : Entries → ℕ → ℕ → ℕ → M
  part_at entries p q k = part_of a rules (entries k p) q

  module _ (periods period : ℕ) (old new : Entry) (cells next : List M) (moves : Exchanged a rules periods period old new cells next) where
    replaced_of : Replaced a rules periods period old new cells next
    replaced_of entries after n i within was is same holds p q h = moves p q h ∙ by (eqb p period) refl
      where
        by : (b : Bool) → eqb p period ≡ b →
            cond b (a.plus (a.minus (total_at a.zero rules.places cells p q) (part_of a rules old q)) (part_of a rules new q)) (total_at a.zero rules.places cells p q) ≡ total_of a rules after n p q
        by true e =
            let here : p ≡ period = eqb-true p period e in
            let was' : part_of a rules old q ≡ part_at entries p q i = ap (λ x. part_of a rules x q) (sym was ∙ ap (entries i) (sym here)) in
            let is' : part_of a rules new q ≡ part_at after p q i = ap (λ x. part_of a rules x q) (sym is ∙ ap (after i) (sym here)) in
            ap (λ x. a.plus (a.minus x (part_of a rules old q)) (part_of a rules new q)) (holds p q h)
            ∙ ap (λ x. a.plus (a.minus (total_of a rules entries n p q) x) (part_of a rules new q)) was'
            ∙ ap (λ x. a.plus (a.minus (total_of a rules entries n p q) (part_at entries p q i)) x) is'
            ∙ sums_replaced laws (part_at entries p q) (part_at after p q) i n within (λ k l d. ap (λ x. part_of a rules x q) (sym (same k p l h.0 (λ x _. d x))))
        by false e = holds p q h ∙ sums_same laws (part_at entries p q) (part_at after p q) n (λ k l. ap (λ x. part_of a rules x q) (sym (same k p l h.0 (λ _ x. eqb-false p period e x))))

    two_of : AtMostTwo a rules periods period cells next
    two_of = (spot_of old.row old.used, (spot_of new.row new.used, λ p q h. by p q (eqb p period) refl (moves p q h)))
      where
        by : (p q : ℕ) (b : Bool) → eqb p period ≡ b →
            total_at a.zero rules.places next p q ≡ cond b (a.plus (a.minus (total_at a.zero rules.places cells p q) (part_of a rules old q)) (part_of a rules new q)) (total_at a.zero rules.places cells p q) →
            (total_at a.zero rules.places next p q ≡ total_at a.zero rules.places cells p q) ⊎ ((p ≡ period) × ((q ≡ spot_of old.row old.used) ⊎ (q ≡ spot_of new.row new.used)))
        by p q false e h = inl h
        by p q true e h = ⊎_elim
            (λ (x : part_of a rules old q ≡ a.zero). ⊎_elim
            (λ (y : part_of a rules new q ≡ a.zero). inl (h
            ∙ ap (λ z. a.plus (a.minus (total_at a.zero rules.places cells p q) z) (part_of a rules new q)) x
            ∙ ap (λ z. a.plus (a.minus (total_at a.zero rules.places cells p q) a.zero) z) y
            ∙ laws.neutral _ ∙ laws.none_less _))
            (λ y. inr (eqb-true p period e, inr y))
            (part_spot new q))
            (λ x. inr (eqb-true p period e, inl x))
            (part_spot old q)

    elsewhere_of : InPeriod a rules periods period cells next
    elsewhere_of p q h d = moves p q h ∙ cond-false _ _ _ (ne_eqb p period d)

    -- all of it follows from the exchange
    pub move_of : Move a rules periods period old new cells next
    move_of = record { exchanged = moves; replaced = replaced_of; two = two_of; elsewhere = elsewhere_of }

  -- a move in a table is one in the amounts that it lies over
  pub move_in : (periods period : ℕ) (old new : Entry) (before after : Totals M) (cells next : List M) →
      before.periods ≡ periods → before.places ≡ rules.places → before.cells.now ≡ cells → next ≡ after.cells.now →
      Shifted a period (λ q total. a.plus (a.minus total (part_of a rules old q)) (part_of a rules new q)) before after →
      Move a rules periods period old new cells next
  move_in periods period old new before after cells next many wide was is shifted = move_of periods period old new cells next moves
    where
      moves : Exchanged a rules periods period old new cells next
      moves p q h =
          let wide' : after.places ≡ rules.places = shifted.same.2 ∙ wide in
          let last : total_at a.zero rules.places next p q ≡ total_in a.zero after p q = cc in
          let first : total_in a.zero before p q ≡ total_at a.zero rules.places cells p q = cc in
          let here : HasTotal before.periods before.places p q = (h.0, rw many h.1, rw wide h.2) in
          last ∙ shifted.totals p q here
          ∙ ap (λ x. cond (eqb p period) (a.plus (a.minus x (part_of a rules old q)) (part_of a rules new q)) x) first
