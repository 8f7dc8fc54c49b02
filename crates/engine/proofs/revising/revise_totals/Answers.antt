use Rattle.std.proofs.Common.{◌+◌, refl, ap, arith}
use Rattle.totals.proofs.Accounts.{same_then}
use Rattle.engine.proofs.Revises.{revise_then, revise_all}
use Rattle.engine.proofs.revising.revise_totals.Goals as goal

pub loop-i-preserved : goal.loop-i-preserved
loop-i-preserved g c =
    let a = g.R.Amount.Amount in
    let s = c.args.sources.now in
    let rules = g.R.Report.rules c.args.account.now.report.now in
    let same = c.loop-i.invariant.1 in (
      revise_then a.laws rules c.args.periods (g.S.Store.grid s.store.now) s.rows.now s.factors.now s.shapes.now c.args.revision c.args.period
          0 c.loop-i.i (c.loop-i.i + 1) c.args.account.now.totals.now c.loop-i.account.totals.now c.revise_meter.new.account.totals.now c.loop-i.invariant.0
          (rw (ap (λ r. g.R.Report.rules r.now) same.report) at c.revise_meter.ensures.revised),
      same_then _ _ _ same c.revise_meter.ensures.same,
    )

pub returns-clause-revised : goal.returns-clause-revised
returns-clause-revised g c =
    let s = c.args.sources.now in (
      c.if-not-fits.ensures.0 refl,
      revise_all g.R.Amount.Amount.laws (g.R.Report.rules c.args.account.now.report.now) c.args.periods (g.S.Store.grid s.store.now) s.rows.now s.factors.now s.shapes.now c.args.revision c.args.period
          c.loop-i.i c.args.account.now.totals.now c.loop-i.account.totals.now (omega arith) c.loop-i.invariant.0,
      c.loop-i.invariant.0.elsewhere,
    )
