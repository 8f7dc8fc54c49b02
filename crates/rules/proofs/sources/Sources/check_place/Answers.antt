use Rattle.std.proofs.Common.{rules}
use Rattle.rules.proofs.Faults.{place_classed}
use Rattle.rules.proofs.sources.Sources.check_place.Goals as goal

pub returns : goal.returns
returns g c =
    let s = c.args.self.now in
    place_classed (g.S.Store.grid s.store.now) s.factors.now s.shapes.now c.args.meter.row c.args.number
    c.args.period c.show.result c.factor.result c.shape.result _
    (search rules) (search rules) (search rules) (search rules) c.check_entries.ensures
