use Rattle.std.proofs.Common.{◌-◌, string_bytes}
use Rattle.timetable.specs.Table.{Lines}
use Rattle.timetable.proofs.table.table.Given as goal

abbrev pub invariant-loop-period : goal.invariant-loop-period
invariant-loop-period l = Lines l.day (l.period - 1) (string_bytes l.text)
