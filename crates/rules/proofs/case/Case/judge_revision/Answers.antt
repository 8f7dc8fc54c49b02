use Rattle.std.proofs.Common.{◌≡◌, Some, None, Err, rules}
use Rattle.market.specs.Refusal.{number_of}
use Rattle.rules.specs.Standing.{standing_of}
use Rattle.rules.proofs.Judgements.{revised_faults}
use Rattle.rules.proofs.case.Case.judge_revision.Goals as goal

pub returns-in_err-check_revision-clause-lowest : goal.returns-in_err-check_revision-clause-lowest
returns-in_err-check_revision-clause-lowest g c =
    let e : c.from_residual.result ≡ Err c.in_err-check_revision.field-0.0 = search rules in
    rw e (revised_faults (standing_of g.S.Store c.args.self.now) (g.S.Period.Period.number c.args.period) c.args.revision c.number_of.result (Some (number_of c.in_err-check_revision.field-0.0)) c.number_of.ensures c.in_err-check_revision.ensures)

pub returns-clause-lowest : goal.returns-clause-lowest
returns-clause-lowest g c = revised_faults (standing_of g.S.Store c.args.self.now) (g.S.Period.Period.number c.args.period) c.args.revision c.number_of.result None c.number_of.ensures c.in_ok-check_revision.ensures
