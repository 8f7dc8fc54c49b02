-- What is lent, after one call and another.
use Rattle.std.proofs.Common.{◌≡◌, ap, ◌∙◌}
use Rattle.stores.specs.declared.store.Store as store
use Rattle.amounts.specs.declared.amount.Amount as amount
use Rattle.totals.specs.declared.report.Report as report
use Rattle.totals.specs.declared.account.Account.{Account}
use Rattle.totals.proofs.Accounts.{same_then}
use Rattle.settlement.specs.declared.inputs.Inputs.{Inputs}
use Rattle.settlement.specs.World.{SameLent, setting, setting_of}

-- what stays the same over both stays the same
pub lent_then : {X Q M R N : Type 0} (i j k : Inputs X) (a b c : Account Q M) (d e f : Account R N) → SameLent i a d j b e → SameLent j b e k c f → SameLent i a d k c f
lent_then i j k a b c d e f one two = record {
  store = two.store ∙ one.store;
  rows = two.rows ∙ one.rows;
  factors = two.factors ∙ one.factors;
  shapes = two.shapes ∙ one.shapes;
  rows_size = two.rows_size ∙ one.rows_size;
  factors_size = two.factors_size ∙ one.factors_size;
  shapes_size = two.shapes_size ∙ one.shapes_size;
  first = same_then _ _ _ one.first two.first;
  second = same_then _ _ _ one.second two.second;
}

-- with the same reports it means the same
pub setting_same : {X P Q M R N : Type 0} (s : store.Ghosts X P) (q : report.Ghosts Q M) (m : amount.Ghosts M) (r : report.Ghosts R N) (n : amount.Ghosts N) (i j : Inputs X) (a b : Account Q M) (d e : Account R N) →
    SameLent i a d j b e → setting_of s q m r n b e ≡ setting_of s q m r n a d
setting_same s q m r n i j a b d e same =
    ap (λ x. setting s.meters s.periods s.grid s.fixed m.algebra m.figure (q.rules x.now) n.algebra n.figure (r.rules e.report.now)) same.first.report
    ∙ ap (λ y. setting s.meters s.periods s.grid s.fixed m.algebra m.figure (q.rules a.report.now) n.algebra n.figure (r.rules y.now)) same.second.report
