use Rattle.std.proofs.Common.{◌≡◌, Some, None, Err, ap, ◌∙◌, rules}
use Rattle.market.specs.Refusal.{number_of as refusal_number}
use Rattle.qualities.specs.Quality.{number_of}
use Rattle.rules.proofs.Deliveries.{deliver_refused, deliver_admitted}
use Rattle.rules.proofs.delivering.check_delivery.Goals as goal

pub returns-in_err-reading-clause-lowest : goal.returns-in_err-reading-clause-lowest
returns-in_err-reading-clause-lowest c =
    let e : c.from_residual.result ≡ Err c.in_err-reading.field-0.0 = search rules in
    rw e (deliver_refused c.args.meter.row c.args.limit c.args.delivery _ c.in_err-reading.ensures.judged)

pub returns-in_err-admit-clause-lowest : goal.returns-in_err-admit-clause-lowest
returns-in_err-admit-clause-lowest c =
    let e : c.from_residual-in_err-admit.result ≡ Err c.in_err-admit.field-0.0 = search rules in
    rw e (deliver_admitted c.args.meter.row c.args.limit c.args.delivery c.quality.result (Some (refusal_number c.in_err-admit.field-0.0)) c.in_ok-reading.ensures.judged
    (ap number_of c.quality.ensures ∙ c.in_ok-reading.ensures.reading.2) c.in_err-admit.ensures.judged)

pub returns-clause-lowest : goal.returns-clause-lowest
returns-clause-lowest c =
    deliver_admitted c.args.meter.row c.args.limit c.args.delivery c.quality.result None c.in_ok-reading.ensures.judged
    (ap number_of c.quality.ensures ∙ c.in_ok-reading.ensures.reading.2) c.in_ok-admit.ensures.judged
