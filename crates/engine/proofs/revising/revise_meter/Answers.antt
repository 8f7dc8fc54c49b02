use Rattle.std.proofs.Common.{◌≡◌, ◌+◌, ◌-◌, get_or, refl, sym, ap, ◌∙◌, subst, arith, rules}
use Rattle.meters.specs.declared.row.MeterRow.{MeterRow}
use Rattle.totals.specs.Moving.{Move}
use Rattle.rules.specs.Tables.{no_row}
use Rattle.engine.specs.Entries.{entry_by}
use Rattle.engine.specs.Revision.{Concerns, revised_entry}
use Rattle.engine.proofs.Moves.{moved_fits}
use Rattle.engine.proofs.Revises.{revise_moved, revise_passed}
use Rattle.engine.proofs.revising.revise_meter.Goals as goal

pub returns-then-concerns-clause-revised : goal.returns-then-concerns-clause-revised
returns-then-concerns-clause-revised g c =
    let a = g.R.Amount.Amount in
    let rules = g.R.Report.rules c.args.account.now.report.now in
    let s = c.args.sources.now in
    let grid = g.S.Store.grid s.store.now in
    let fs = s.factors.now in
    let sh = s.shapes.now in
    let i = c.args.i in
    let p = c.args.period in
    let cells = c.args.account.now.totals.now in
    let next = c.replace.new.self.totals.now in
    let row : MeterRow = get_or s.rows.now i no_row in
    let back : i + 1 - 1 ≡ i = omega arith in
    let met : c.args.row ≡ row = rw back at c.requires.met.1 in
    let shown : c.show-stored.result ≡ grid (i + 1) p = c.show-stored.ensures.value ∙ ap (grid (i + 1)) c.of_number.ensures in
    let was : c.entry_of-before.result ≡ entry_by fs sh row (grid (i + 1) p) p =
    c.entry_of-before.ensures ∙ ap (λ o. entry_by fs sh c.args.row o p) shown ∙ ap (λ r. entry_by fs sh r (grid (i + 1) p) p) met in
    let is : c.revised_entry-after.result ≡ revised_entry c.args.revision fs sh row (grid (i + 1) p) p =
    c.revised_entry-after.ensures ∙ ap (λ o. revised_entry c.args.revision fs sh c.args.row o p) shown ∙ ap (λ r. revised_entry c.args.revision fs sh r (grid (i + 1) p) p) met in
    let move : Move a.algebra rules c.args.periods p c.entry_of-before.result c.revised_entry-after.result cells next =
    moved_fits a.algebra rules rules c.args.periods p c.entry_of-before.result c.revised_entry-after.result cells next c.replace.result refl c.requires.fits c.replace.ensures.moved in
    revise_moved a.laws rules c.args.periods grid s.rows.now fs sh c.args.revision p i c.entry_of-before.result c.revised_entry-after.result cells next
    c.requires.met.0 (subst (Concerns c.args.revision) met (c.if-concerns.ensures.0 refl)) was is move

pub returns-else-concerns-clause-revised : goal.returns-else-concerns-clause-revised
returns-else-concerns-clause-revised g c =
    let a = g.R.Amount.Amount in
    let s = c.args.sources.now in
    let row : MeterRow = get_or s.rows.now c.args.i no_row in
    let back : c.args.i + 1 - 1 ≡ c.args.i = omega arith in
    let met : c.args.row ≡ row = rw back at c.requires.met.1 in
    let other : Concerns c.args.revision c.args.row → ⊥ = search rules in
    revise_passed a.laws (g.R.Report.rules c.args.account.now.report.now) c.args.periods (g.S.Store.grid s.store.now) s.rows.now s.factors.now s.shapes.now c.args.revision c.args.period c.args.i c.args.account.now.totals.now
    (λ k. other (subst (Concerns c.args.revision) (sym met) k))
