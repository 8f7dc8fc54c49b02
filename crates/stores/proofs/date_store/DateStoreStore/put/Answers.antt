use Rattle.std.proofs.Common.{◌≡◌, length, refl, ap, ◌∙◌, rules}
use Rattle.stores.specs.Date.{place_of, is_inside}
use Rattle.stores.specs.Layout.{meters_in, grid_in}
use Rattle.stores.proofs.Cells.{held, bounds, here, found_place, grid_written}
use Rattle.stores.proofs.date_store.DateStoreStore.put.Goals as goal

pub returns-clause-memory : goal.returns-clause-memory
returns-clause-memory g c =
    let l = g.L.Layout in
    let cs = c.args.self.now.cells.now in
    let m = c.args.meter in
    let p = c.args.period.0 in
    let r = c.args.reading in
    let found = found_place (is_inside (meters_in l.CELLS (length cs)) m p) c.in_ok-place.place (place_of m p) (search rules) in
    let there = held l.CELLS (length cs) c.in_ok-place.place l.laws.some (search rules) in
    c.write.ensures.0 there ∙ ap (λ k. l.written cs k r) found.1

pub returns-clause-grid : goal.returns-clause-grid
returns-clause-grid g c =
    let l = g.L.Layout in
    let cs = c.args.self.now.cells.now in
    let m = c.args.meter in
    let p = c.args.period.0 in
    let r = c.args.reading in
    let found = found_place (is_inside (meters_in l.CELLS (length cs)) m p) c.in_ok-place.place (place_of m p) (search rules) in
    let after : c.write.new.cells ≡ l.written cs (place_of m p) r = returns-clause-memory g c in
    record {
      taken = λ inside. (refl, λ i j. ap (λ xs. grid_in l.CELLS l.shown xs i j) after ∙ grid_written l.laws cs m p r found.0 i j);
      refused = λ out. absurd (out (bounds (meters_in l.CELLS (length cs)) m p found.0));
      size = (ap (meters_in l.CELLS) (ap length after ∙ l.laws.size cs (place_of m p) r (here l.laws cs m p r found.0 m p)), refl);
      keeps = refl;
    }
