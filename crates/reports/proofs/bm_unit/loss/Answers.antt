use Rattle.std.proofs.Common.{rules}
use Rattle.reports.proofs.Small.{loss_fits}
use Rattle.reports.proofs.bm_unit.loss.Goals as goal

pub returns : goal.returns
returns c = let fits = loss_fits c.args.factor c.args.volume (search rules) (search rules) in search rules
