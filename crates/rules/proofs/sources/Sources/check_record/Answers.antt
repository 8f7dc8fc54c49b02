use Rattle.std.proofs.Common.{◌≡◌, Err, rules}
use Rattle.market.specs.Lowest.{turned_down}
use Rattle.rules.specs.Joined.{Among}
use Rattle.rules.specs.Places.{PlaceFault}
use Rattle.rules.proofs.Faults.{law_kept, law_broken, place_late}
use Rattle.rules.proofs.sources.Sources.check_record.Goals as goal

pub returns-in_err-new : goal.returns-in_err-new
returns-in_err-new g c =
    let s = c.args.self.now in
    let e : c.from_residual.result ≡ Err c.in_err-new.field-0.0 = search rules in
    rw e (law_broken c.args.row (Among c.args.periods (PlaceFault (g.S.Store.grid s.store.now) s.factors.now s.shapes.now c.args.row c.args.number)) _ (search rules) (search rules)
    (λ k y. place_late (g.S.Store.grid s.store.now) s.factors.now s.shapes.now c.args.row c.args.number y.0 k y.1.2))

pub returns : goal.returns
returns g c =
    let s = c.args.self.now in
    law_kept c.args.row (Among c.args.periods (PlaceFault (g.S.Store.grid s.store.now) s.factors.now s.shapes.now c.args.row c.args.number)) (turned_down c.check_periods.result) (search rules)
    (rw c.in_ok-new.ensures.0 at c.check_periods.ensures)
