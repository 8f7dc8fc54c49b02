use Rattle.std.proofs.Common.{◌≡◌, Err, ap, rules}
use Rattle.market.specs.Refusal.{number_of}
use Rattle.rules.specs.Asked.{asked, settle, deliver, amend, revised}
use Rattle.rules.specs.Standing.{standing_of}
use Rattle.rules.proofs.Judgements.{fault_first, judged_later}
use Rattle.rules.proofs.case.Case.judge.Goals as goal

pub returns-in_err-check_first-clause-judged : goal.returns-in_err-check_first-clause-judged
returns-in_err-check_first-clause-judged g c =
    let e : c.from_residual.result ≡ Err c.in_err-check_first.field-0.0 = search rules in
    rw e (fault_first (standing_of g.S.Store c.args.self.now) (asked g.S.Period.Period.number c.args.call) (number_of c.in_err-check_first.field-0.0) c.in_err-check_first.ensures.lowest c.in_err-check_first.ensures.clean)

pub returns-in-Settle-clause-judged : goal.returns-in-Settle-clause-judged
returns-in-Settle-clause-judged g c =
    (judged_later (standing_of g.S.Store c.args.self.now) g.S.Period.Period.number (asked g.S.Period.Period.number c.args.call) settle c.judge_settle.result
    (ap (asked g.S.Period.Period.number) c.in-Settle.is) c.in_ok-check_first.ensures.lowest c.in_ok-check_first.ensures.clean c.judge_settle.ensures.lowest c.judge_settle.ensures.task).0

pub returns-in-Deliver-clause-judged : goal.returns-in-Deliver-clause-judged
returns-in-Deliver-clause-judged g c =
    (judged_later (standing_of g.S.Store c.args.self.now) g.S.Period.Period.number (asked g.S.Period.Period.number c.args.call) (deliver c.in-Deliver.meter (g.S.Period.Period.number c.in-Deliver.period) c.in-Deliver.reading) c.judge_deliver.result
    (ap (asked g.S.Period.Period.number) c.in-Deliver.is) c.in_ok-check_first.ensures.lowest c.in_ok-check_first.ensures.clean c.judge_deliver.ensures.lowest c.judge_deliver.ensures.task).0

pub returns-in-Amend-clause-judged : goal.returns-in-Amend-clause-judged
returns-in-Amend-clause-judged g c =
    (judged_later (standing_of g.S.Store c.args.self.now) g.S.Period.Period.number (asked g.S.Period.Period.number c.args.call) (amend c.in-Amend.meter c.in-Amend.row) c.judge_amend.result
    (ap (asked g.S.Period.Period.number) c.in-Amend.is) c.in_ok-check_first.ensures.lowest c.in_ok-check_first.ensures.clean c.judge_amend.ensures.lowest c.judge_amend.ensures.task).0

pub returns-in-Revise-clause-judged : goal.returns-in-Revise-clause-judged
returns-in-Revise-clause-judged g c =
    (judged_later (standing_of g.S.Store c.args.self.now) g.S.Period.Period.number (asked g.S.Period.Period.number c.args.call) (revised (g.S.Period.Period.number c.in-Revise.period) c.in-Revise.revision) c.judge_revision.result
    (ap (asked g.S.Period.Period.number) c.in-Revise.is) c.in_ok-check_first.ensures.lowest c.in_ok-check_first.ensures.clean c.judge_revision.ensures.lowest c.judge_revision.ensures.task).0
