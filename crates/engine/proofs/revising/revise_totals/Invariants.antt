use Rattle.totals.specs.Account.{SameAccount}
use Rattle.engine.specs.Changes.{RevisedFrom}
use Rattle.engine.proofs.revising.revise_totals.Given as goal

abbrev pub invariant-loop-i : goal.invariant-loop-i
invariant-loop-i g l =
    let s = l.sources in
    RevisedFrom g.R.Amount.Amount.algebra (g.R.Report.rules l.initial.account.report.now) l.periods (g.S.Store.grid s.store.now) s.rows.now s.factors.now s.shapes.now l.revision l.period 0 l.i l.initial.account.totals.now l.account.totals.now
    × SameAccount l.initial.account l.account
