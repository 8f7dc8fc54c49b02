use Rattle.std.proofs.Common.{◌≡◌, Some, None, Err, rules}
use Rattle.market.specs.Refusal.{number_of}
use Rattle.rules.proofs.Deliveries.{one_settled}
use Rattle.rules.proofs.case.Case.check_meter.Goals as goal

pub returns-in_err-check_place-clause-lowest : goal.returns-in_err-check_place-clause-lowest
returns-in_err-check_place-clause-lowest g c =
    let s = c.args.self.now.sources in
    let e : c.from_residual-in_err-check_place.result ≡ Err c.in_err-check_place.field-0.0 = search rules in
    rw e (one_settled (g.S.Store.grid s.store.now) s.factors.now s.shapes.now c.args.row c.args.number c.args.period c.args.self.now.state c.in_ok-meter.meter.row (Some (number_of c.in_err-check_place.field-0.0))
    (search rules) (search rules) (search rules) c.in_err-check_place.ensures)

pub returns-in_ok-check_place-clause-lowest : goal.returns-in_ok-check_place-clause-lowest
returns-in_ok-check_place-clause-lowest g c =
    let s = c.args.self.now.sources in
    one_settled (g.S.Store.grid s.store.now) s.factors.now s.shapes.now c.args.row c.args.number c.args.period c.args.self.now.state c.in_ok-meter.meter.row None
    (search rules) (search rules) (search rules) c.in_ok-check_place.ensures
