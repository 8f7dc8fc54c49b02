use Rattle.totals.specs.Settling.{Added}
use Rattle.totals.proofs.settling.add_period.Given as goal

abbrev pub invariant-loop-index : goal.invariant-loop-index
invariant-loop-index g l =
    Added g.R.Amount.Amount.algebra (g.R.Report.rules l.report) (g.E.Entries.entries l.meters) l.period l.index l.initial.table l.table
