-- A table after an entry came or went.
use Rattle.std.proofs.Common.{◌≡◌, ℕ, Bool, true, false, cond, ◌&&◌, eqb, Ok, Err, Result, sym, refl, ap, ◌∙◌, subst}
use Rattle.std.proofs.lemmas.Bool.{eqb-true}
use Rattle.market.specs.declared.refusal.Refusal.{Refusal}
use Rattle.amounts.specs.Laws.{Algebra}
use Rattle.totals.specs.declared.totals.Totals.{Totals}
use Rattle.totals.specs.Table.{HasTotal, total_at, total_in, SameTable, Changed}
use Rattle.totals.specs.Moves.{Shifted}
use Rattle.totals.proofs.Cells.{set_total}

-- by an operation that zero does not change, where an entry brings x to place k and nothing to the others
module _ {M : Type 0} (a : Algebra M) (op : M → M → M) (neutral : (y : M) → op y a.zero ≡ y) (part : ℕ → M) (k : ℕ) (x : M) (brings : (q : ℕ) → part q ≡ cond (eqb k q) x a.zero) (period : ℕ) (before after : Totals M) where
  change : ℕ → M → M
  change q total = op total (part q)

  at_place : (q : ℕ) → eqb k q ≡ true → part q ≡ x
  at_place q e = brings q ∙ ap (λ b. cond b x a.zero) e

  elsewhere : (q : ℕ) → eqb k q ≡ false → part q ≡ a.zero
  elsewhere q e = brings q ∙ ap (λ b. cond b x a.zero) e

  module _ (h : HasTotal before.periods before.places period k) (same : SameTable before after) where
    abbrev was : ℕ → ℕ → M
    was p q = total_in a.zero before p q

    by : (p q : ℕ) (b : Bool) → eqb p period ≡ b → (e : Bool) → eqb k q ≡ e →
        total_in a.zero after p q ≡ cond (b && e) (op (was period k) x) (was p q) → total_in a.zero after p q ≡ cond b (op (was p q) (part q)) (was p q)
    by p q true e true f t =
        t ∙ ap (λ r. op (was r k) x) (sym (eqb-true p period e)) ∙ ap (λ r. op (was p r) x) (eqb-true k q f) ∙ ap (op (was p q)) (sym (at_place q f))
    by p q true e false f t = t ∙ sym (neutral (was p q)) ∙ ap (op (was p q)) (sym (elsewhere q f))
    by p q false e b f t = t

  -- where the table has no such place, an entry brings nothing to those that it has
  outside : (HasTotal before.periods before.places period k → ⊥) → (p q : ℕ) → HasTotal before.periods before.places p q →
      (b : Bool) → eqb p period ≡ b → (e : Bool) → eqb k q ≡ e → total_in a.zero before p q ≡ cond b (op (total_in a.zero before p q) (part q)) (total_in a.zero before p q)
  outside none p q here true e true f =
      let there : HasTotal before.periods before.places period k =
      subst (λ r. HasTotal before.periods before.places r k) (eqb-true p period e)
      (subst (λ r. HasTotal before.periods before.places p r) (sym (eqb-true k q f)) here) in
      absurd (none there)
  outside none p q here true e false f = sym (neutral (total_in a.zero before p q)) ∙ ap (op (total_in a.zero before p q)) (sym (elsewhere q f))
  outside none p q here false e b f = refl

  pub shifted : (r : Result (Unit {0}) Refusal) → Changed a.zero (λ total. op total x) before after period k r → Shifted a period (λ q total. op total (part q)) before after
  shifted (Ok done) (h, same, cells) = record {
    same = same;
    totals = λ p q here.
        by h same p q (eqb p period) refl (eqb k q) refl
        (ap (λ w. total_at a.zero w after.cells.now p q) same.2
        ∙ ap (λ cs. total_at a.zero before.places cs p q) cells
        ∙ set_total a.zero before.cells.now before.periods before.places period k _ before.sized h p q here);
  }
  shifted (Err e) (none, number, unchanged) = record {
    same = subst (λ t. SameTable before t) (sym unchanged) (refl, refl, refl);
    totals = λ p q here. ap (λ t. total_in a.zero t p q) unchanged ∙ outside none p q here (eqb p period) refl (eqb k q) refl;
  }
