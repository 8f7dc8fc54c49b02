use Rattle.std.proofs.Common.{rules, Less, Greater}
use Rattle.market.proofs.Dates.{compared}
use Rattle.market.proofs.date.Date.kind.Goals as goal

pub returns-in-Greater-Less : goal.returns-in-Greater-Less
returns-in-Greater-Less c =
    let spring = compared c.args.self c.changes_in-changes.result.spring Greater c.in-Greater-Less.ensures in
    let autumn = compared c.args.self c.changes_in-changes.result.autumn Less c.in-Greater-Less.ensures' in
    search rules

pub returns-in_default : goal.returns-in_default
returns-in_default c =
    let spring = compared c.args.self c.changes_in-changes.result.spring Greater c.in_default.ensures in
    let autumn = compared c.args.self c.changes_in-changes.result.autumn Greater c.in_default.ensures' in
    search rules

pub returns-in_default-2 : goal.returns-in_default-2
returns-in_default-2 c =
    let spring = compared c.args.self c.changes_in-changes.result.spring Less c.in_default.ensures in
    search rules
