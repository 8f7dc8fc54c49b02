use Rattle.std.proofs.Common.{◌≡◌, Some, None, Err, ◌∙◌, rules}
use Rattle.market.specs.Refusal.{number_of}
use Rattle.rules.specs.Standing.{standing_of}
use Rattle.rules.proofs.Judgements.{deliver_record, deliver_given}
use Rattle.rules.proofs.case.Case.judge_deliver.Goals as goal

pub returns-in_err-record-clause-lowest : goal.returns-in_err-record-clause-lowest
returns-in_err-record-clause-lowest g c =
    let e : c.from_residual.result ≡ Err c.in_err-record.field-0.0 = search rules in
    rw e (deliver_record (standing_of g.S.Store c.args.self.now) c.args.meter (g.S.Period.Period.number c.args.period) c.args.delivery (number_of c.in_err-record.field-0.0)
    (rw (c.row-row.ensures, c.number_of.ensures) at c.in_err-record.ensures.lowest))

pub returns-in_err-reading-clause-lowest : goal.returns-in_err-reading-clause-lowest
returns-in_err-reading-clause-lowest g c =
    let e : c.from_residual-in_err-reading.result ≡ Err c.in_err-reading.field-0.0 = search rules in
    rw e (deliver_given (standing_of g.S.Store c.args.self.now) c.args.meter (g.S.Period.Period.number c.args.period) c.args.delivery (Some (number_of c.in_err-reading.field-0.0))
    (rw (c.row-row.ensures, c.number_of.ensures) at c.in_ok-record.ensures.lowest)
    (rw (c.in_ok-record.ensures.meter ∙ c.row-row.ensures) at c.in_err-reading.ensures.lowest))

pub returns-clause-lowest : goal.returns-clause-lowest
returns-clause-lowest g c =
    deliver_given (standing_of g.S.Store c.args.self.now) c.args.meter (g.S.Period.Period.number c.args.period) c.args.delivery None
    (rw (c.row-row.ensures, c.number_of.ensures) at c.in_ok-record.ensures.lowest)
    (rw (c.in_ok-record.ensures.meter ∙ c.row-row.ensures) at c.in_ok-reading.ensures.lowest)
