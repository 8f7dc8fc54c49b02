use Rattle.std.proofs.Common.{length, sym, ap, ◌∙◌, rules, None}
use Rattle.std.proofs.lemmas.Bool.{cond-true}
use Rattle.stores.specs.Date.{place_of, is_inside}
use Rattle.stores.specs.Layout.{meters_in}
use Rattle.stores.proofs.Cells.{held, found_place}
use Rattle.stores.proofs.date_store.DateStoreStore.show.Goals as goal

pub returns-clause-value : goal.returns-clause-value
returns-clause-value g c =
    let l = g.L.Layout in
    let cs = c.args.self.now.cells.now in
    let inside = is_inside (meters_in l.CELLS (length cs)) c.args.meter c.args.period.0 in
    let place = place_of c.args.meter c.args.period.0 in
    let found = found_place inside c.in_ok-place.place place (search rules) in
    let there = held l.CELLS (length cs) c.in_ok-place.place l.laws.some (search rules) in
    c.show.ensures.0 there ∙ ap (l.shown cs) found.1 ∙ sym (cond-true inside (l.shown cs place) None found.0)
