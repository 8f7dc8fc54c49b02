use Rattle.totals.proofs.Fills.{RaisedBelow}
use Rattle.totals.proofs.settling.add_periods.Given as goal

abbrev pub invariant-loop-period : goal.invariant-loop-period
invariant-loop-period g l =
    RaisedBelow g.R.Amount.Amount.algebra (g.R.Report.rules l.report) (g.E.Entries.entries l.meters) (g.E.Entries.count l.meters) l.period l.initial.table l.table
