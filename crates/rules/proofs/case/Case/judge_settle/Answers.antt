use Rattle.std.proofs.Common.{◌≡◌, Some, None, Err, rules}
use Rattle.market.specs.Refusal.{number_of}
use Rattle.rules.specs.Standing.{standing_of}
use Rattle.rules.proofs.Judgements.{settle_faults}
use Rattle.rules.proofs.case.Case.judge_settle.Goals as goal

pub returns-in_err-check_records-clause-lowest : goal.returns-in_err-check_records-clause-lowest
returns-in_err-check_records-clause-lowest g c =
    let e : c.from_residual.result ≡ Err c.in_err-check_records.field-0.0 = search rules in
    rw e (settle_faults (standing_of g.S.Store c.args.self.now) (Some (number_of c.in_err-check_records.field-0.0)) c.in_err-check_records.ensures)

pub returns-clause-lowest : goal.returns-clause-lowest
returns-clause-lowest g c = settle_faults (standing_of g.S.Store c.args.self.now) None c.in_ok-check_records.ensures
