use Rattle.std.proofs.Common.{◌-◌, ◌≤◌}
use Rattle.totals.specs.Account.{SameAccount}
use Rattle.engine.proofs.Amends.{AmendFollowed, TwoBelow}
use Rattle.engine.proofs.amending.amend_totals.Given as goal

abbrev pub invariant-loop-period : goal.invariant-loop-period
invariant-loop-period g l =
    let m = g.R.Amount.Amount in
    let rules = g.R.Report.rules l.initial.account.report.now in
    let s = l.sources in
    AmendFollowed m.laws rules l.periods (g.S.Store.grid s.store.now) s.factors.now s.shapes.now l.meter l.old l.new l.period l.initial.account.totals.now l.account.totals.now
    × TwoBelow m.algebra rules l.periods l.period l.initial.account.totals.now l.account.totals.now
    × SameAccount l.initial.account l.account
    × (l.period - 1 ≤ l.periods)
