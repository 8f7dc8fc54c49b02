use Rattle.std.proofs.Common.{rules}
use Rattle.timetable.proofs.Written.{lines_more, lines_all}
use Rattle.timetable.proofs.table.table.Goals as goal
use Rattle.timetable.proofs.table.table.Goals.{else-loop-period-test, then-loop-period-test+in_ok-writeln+else-period-period-end}

pub loop-period-preserved : goal.loop-period-preserved
loop-period-preserved c =
    lines_more c.args.day c.loop-period.period _ _ _ c.unwrap-row.result (search rules) (search rules) c.loop-period.invariant (search rules) (search rules) (search rules)

pub returns : goal.returns
returns c = elim c.loop-period-test.branch [
  | else-loop-period-test w ↦ rw w.text-is (lines_all c.args.day _ _ _ c.loop-period.invariant (search rules))
  | then-loop-period-test+in_ok-writeln+else-period-period-end w ↦ rw w.text-is
      (lines_more c.args.day c.loop-period.period _ _ _ w.unwrap-row.result (search rules) (search rules) c.loop-period.invariant (search rules) (search rules) (search rules))
]
