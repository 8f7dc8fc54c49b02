use Rattle.std.proofs.Common.{rules}
use Rattle.market.specs.Lowest.{turned_down}
use Rattle.rules.specs.Standing.{standing_of}
use Rattle.rules.proofs.Judgements.{amend_settled, amend_new}
use Rattle.rules.proofs.case.Case.check_amend.Goals as goal

pub returns-in-Settled : goal.returns-in-Settled
returns-in-Settled g c =
    rw c.earlier.ensures
    (amend_settled (standing_of g.S.Store c.args.self.now) c.args.meter c.args.row (turned_down c.check_record-new.result) (turned_down c.check_record-old.result) c.in-Settled.is c.check_record-new.ensures (rw c.row.ensures at c.check_record-old.ensures))

pub returns-in_default : goal.returns-in_default
returns-in_default g c = amend_new (standing_of g.S.Store c.args.self.now) c.args.meter c.args.row (turned_down c.check_stored.result) (search rules) c.check_stored.ensures
