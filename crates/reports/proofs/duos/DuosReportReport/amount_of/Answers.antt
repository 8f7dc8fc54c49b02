use Rattle.std.proofs.Common.{rules}
use Rattle.amounts.specs.Duos.{same_duos}
use Rattle.reports.specs.Duos.{duos_amount}
use Rattle.reports.proofs.duos.DuosReportReport.amount_of.Goals as goal

pub returns : goal.returns
returns c = record {
  value = same_duos _ (duos_amount c.args.meter.row c.args.used) (search rules) (search rules) (search rules) (search rules) (search rules);
  exact = search rules;
}
