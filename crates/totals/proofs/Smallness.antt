-- What an entry brings is small.
use Rattle.std.proofs.Common.{ℕ, ◌^◌, ◌<◌, Bool, true, false, cond, ℤ, pos, IfSome, Some, None, Option, sym, subst, arith}
use Rattle.std.proofs.lemmas.Int.{ints}
use Rattle.meters.specs.declared.row.MeterRow.{MeterRow}
use Rattle.meters.specs.declared.used.UsedReading.{UsedReading}
use Rattle.meters.specs.Lawful.{is_lawful}
use Rattle.amounts.specs.Laws.{Algebra}
use Rattle.amounts.specs.Sums.{Within, Exact}
use Rattle.amounts.proofs.Exactly.{exact_4096}
use Rattle.totals.specs.Rules.{Rules, Small}
use Rattle.totals.specs.Entry.{names, lawful_part, part_of}
use Rattle.totals.specs.Exactness.{ExactTotals}

module _ {M : Type 0} {a : Algebra M} {figure : M → ℕ → ℤ} (exact : Exact a figure) (rules : Rules M) (small : Small rules figure) where
  nothing_small : (k : ℕ) → Within (2 ^ 50) (figure a.zero k)
  nothing_small k = let none : Within (2 ^ 50) (pos 0) = (omega (arith, ints), omega (arith, ints)) in subst (λ z. Within (2 ^ 50) z) (sym (exact.nothing k)) none

  either_small : (b : Bool) (x : M) (k : ℕ) → Within (2 ^ 50) (figure x k) → Within (2 ^ 50) (figure (cond b x a.zero) k)
  either_small true x k h = h
  either_small false x k h = nothing_small k

  lawful_small : (m : MeterRow) (u : Option UsedReading) (f : Option ℕ) (q k : ℕ) → IfSome u (λ r. r.volume < 2 ^ 32) → IfSome f (λ x. x < 2 ^ 16) →
      Within (2 ^ 50) (figure (lawful_part a rules m u f q) k)
  lawful_small m None f q k h l = nothing_small k
  lawful_small m (Some u) None q k h l = nothing_small k
  lawful_small m (Some u) (Some f) q k h l = either_small (names (rules.place m u) q) (rules.amount m u f) k (small m u f k h l)

  -- so the totals of few meters lose nothing
  pub exact_totals : ExactTotals a rules figure
  exact_totals entries n p q k few fits =
      exact_4096 exact (λ i. part_of a rules (entries i p) q) k n few
      (λ i l. either_small (is_lawful (entries i p).row) _ k (lawful_small (entries i p).row (entries i p).used (entries i p).factor q k (fits i l).0 (fits i l).1))
