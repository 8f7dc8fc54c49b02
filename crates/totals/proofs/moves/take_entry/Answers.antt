use Rattle.std.proofs.Common.{rules}
use Rattle.totals.specs.Table.{Changed}
use Rattle.totals.proofs.Shifts.{shifted}
use Rattle.totals.proofs.moves.take_entry.Goals as goal

pub returns-in-Some : goal.returns-in-Some
returns-in-Some g c =
    let a = g.R.Amount.Amount.algebra in
    let changed : Changed a.zero (λ total. a.minus total c.in-Some.amount) c.args.table.now c.take_away.new.self c.args.period c.in-Some.place c.take_away.result = search rules in
    shifted a a.minus g.R.Amount.Amount.laws.none_less _ c.in-Some.place c.in-Some.amount c.in-Some.ensures.1 c.args.period c.args.table.now c.take_away.new.self c.take_away.result changed
