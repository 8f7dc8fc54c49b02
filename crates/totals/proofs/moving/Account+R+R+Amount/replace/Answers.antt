use Rattle.std.proofs.Common.{rules}
use Rattle.totals.proofs.Exchanges.{move_in}
use Rattle.totals.proofs.moving.Account+R+R+Amount.replace.Goals as goal

pub returns-clause-moved : goal.returns-clause-moved
returns-clause-moved g c = (
  search rules,
  move_in g.R.Amount.Amount.laws (g.R.Report.rules c.args.self.now.report.now) c.args.periods c.args.period c.args.old c.args.new _
      c.replace_entry.new.table c.args.self.now.totals.now _ (search rules) (search rules) (search rules) (search rules) c.replace_entry.ensures,
)
