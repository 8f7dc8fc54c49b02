use Rattle.std.proofs.Common.{rules}
use Rattle.market.specs.Lowest.{turned_down}
use Rattle.rules.specs.Places.{PlaceFault}
use Rattle.rules.proofs.Faults.{law_kept}
use Rattle.rules.proofs.sources.Sources.check_row.Goals as goal

pub returns : goal.returns
returns g c =
    let s = c.args.self.now in
    law_kept c.args.row (PlaceFault (g.S.Store.grid s.store.now) s.factors.now s.shapes.now c.args.row c.args.number c.args.period) (turned_down c.check_place.result) (search rules)
    (rw c.in_ok-new.ensures.0 at c.check_place.ensures)
