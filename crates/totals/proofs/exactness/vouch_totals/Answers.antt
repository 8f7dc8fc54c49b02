use Rattle.totals.proofs.Smallness.{exact_totals}
use Rattle.totals.proofs.exactness.vouch_totals.Goals as goal

pub returns : goal.returns
returns g c = exact_totals g.R.Amount.Amount.exact (g.R.Report.rules c.args.report.now) c.vouch.ensures
