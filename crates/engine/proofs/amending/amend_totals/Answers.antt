use Rattle.std.proofs.Common.{◌≡◌, ◌+◌, ◌*◌, length, refl, ap, ◌∙◌, arith}
use Rattle.totals.specs.Rules.{Rules}
use Rattle.totals.specs.Moving.{Move}
use Rattle.totals.proofs.Accounts.{same_then}
use Rattle.engine.specs.Entries.{entry_by}
use Rattle.engine.proofs.Moves.{moved_fits}
use Rattle.engine.proofs.Amends.{amend_none, amend_more, amend_all, two_none, two_more, two_all}
use Rattle.engine.proofs.amending.amend_totals.Goals as goal

pub loop-period-init : goal.loop-period-init
loop-period-init g c =
    let a = g.R.Amount.Amount in
    let s = c.args.sources.now in
    let rules = g.R.Report.rules c.args.account.now.report.now in (
      amend_none a.laws rules c.args.periods (g.S.Store.grid s.store.now) s.factors.now s.shapes.now c.args.meter c.args.old c.args.new c.args.account.now.totals.now,
      two_none a.algebra rules c.args.periods c.args.account.now.totals.now,
      search rules,
      omega arith,
    )

pub loop-period-preserved : goal.loop-period-preserved
loop-period-preserved g c =
    let a = g.R.Amount.Amount in
    let s = c.args.sources.now in
    let grid = g.S.Store.grid s.store.now in
    let P = c.args.periods in
    let rules : Rules g.row.R-Amount.Denot = g.R.Report.rules c.args.account.now.report.now in
    let p = c.loop-period.period in
    let was = entry_by s.factors.now s.shapes.now c.args.old (grid c.args.meter p) p in
    let is = entry_by s.factors.now s.shapes.now c.args.new (grid c.args.meter p) p in
    let first = c.args.account.now.totals.now in
    let cells = c.loop-period.account.totals.now in
    let next = c.amend_period.new.account.totals.now in
    let same = c.loop-period.invariant.2 in
    let size : length first ≡ P * rules.places = c.if-not-fits.ensures.0 refl in
    let move : Move a.algebra rules P p was is cells next =
    moved_fits a.algebra rules (g.R.Report.rules c.loop-period.account.report.now) P p was is cells next c.amend_period.result
    (ap (λ r. g.R.Report.rules r.now) same.report) (same.size ∙ size) c.amend_period.ensures.moved in (
      amend_more a.laws rules P grid s.factors.now s.shapes.now c.args.meter c.args.old c.args.new p first cells next move c.loop-period.invariant.0,
      two_more a.algebra rules P p was is first cells next move c.loop-period.invariant.1,
      same_then _ _ _ same c.amend_period.ensures.same,
      omega arith,
    )

pub returns-else-not-fits-2-clause-amended : goal.returns-else-not-fits-2-clause-amended
returns-else-not-fits-2-clause-amended g c =
    let a = g.R.Amount.Amount in
    let s = c.args.sources.now in
    let grid = g.S.Store.grid s.store.now in
    let P = c.args.periods in
    let rules : Rules g.row.R-Amount.Denot = g.R.Report.rules c.args.account.now.report.now in
    let p = c.loop-period.period in
    let was = entry_by s.factors.now s.shapes.now c.args.old (grid c.args.meter p) p in
    let is = entry_by s.factors.now s.shapes.now c.args.new (grid c.args.meter p) p in
    let first = c.args.account.now.totals.now in
    let cells = c.loop-period.account.totals.now in
    let next = c.amend_period.new.account.totals.now in
    let same = c.loop-period.invariant.2 in
    let size : length first ≡ P * rules.places = c.if-not-fits.ensures.0 refl in
    let move : Move a.algebra rules P p was is cells next =
    moved_fits a.algebra rules (g.R.Report.rules c.loop-period.account.report.now) P p was is cells next c.amend_period.result
    (ap (λ r. g.R.Report.rules r.now) same.report) (same.size ∙ size) c.amend_period.ensures.moved in (
      size,
      amend_all a.laws rules P grid s.factors.now s.shapes.now c.args.meter c.args.old c.args.new (p + 1) first next (omega arith) (amend_more a.laws rules P grid s.factors.now s.shapes.now c.args.meter c.args.old c.args.new p first cells next move c.loop-period.invariant.0),
      two_all a.algebra rules P (p + 1) first next (two_more a.algebra rules P p was is first cells next move c.loop-period.invariant.1),
    )
