use Rattle.std.proofs.Common.{refl, arith, rules}
use Rattle.totals.proofs.Cells.{cell_below}
use Rattle.totals.proofs.totals.Totals.index.Goals as goal

pub returns-then-place-self : goal.returns-then-place-self
returns-then-place-self g c =
    let t = c.args.self.now in
    let below = cell_below t.periods t.places c.args.period c.args.place (search rules) in
    (search rules, refl, omega arith)
