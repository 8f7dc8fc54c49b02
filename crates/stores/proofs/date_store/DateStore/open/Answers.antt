use Rattle.std.proofs.Common.{◌≡◌, ◌*◌, length, ap, ◌∙◌}
use Rattle.stores.specs.Layout.{meters_in, grid_in}
use Rattle.stores.proofs.Cells.{opened, blank_grid}
use Rattle.stores.proofs.date_store.DateStore.open.Goals as goal

pub returns-clause-memory : goal.returns-clause-memory
returns-clause-memory g c =
    let l = g.L.Layout in
    let cs = c.args.cells.now in
    let count : c.meters_of.result * 48 * c.CELLS.result ≡ meters_in l.CELLS (length cs) * 48 * l.CELLS = cc in
    opened l.laws cs c.blank.new.cells (c.meters_of.result * 48 * c.CELLS.result) count c.blank.ensures

pub returns-clause-empty : goal.returns-clause-empty
returns-clause-empty g c i j =
    let l = g.L.Layout in
    let cs = c.args.cells.now in
    ap (λ xs. grid_in l.CELLS l.shown xs i j) (returns-clause-memory g c) ∙ blank_grid l.laws cs i j
