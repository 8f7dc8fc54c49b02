use Rattle.std.proofs.Common.{rules}
use Rattle.totals.specs.Table.{Changed}
use Rattle.totals.proofs.Shifts.{shifted}
use Rattle.totals.proofs.moves.add_entry.Goals as goal

pub returns-in-Some : goal.returns-in-Some
returns-in-Some g c =
    let a = g.R.Amount.Amount.algebra in
    let changed : Changed a.zero (λ total. a.plus total c.in-Some.amount) c.args.table.now c.add.new.self c.args.period c.in-Some.place c.add.result = search rules in
    shifted a a.plus g.R.Amount.Amount.laws.neutral _ c.in-Some.place c.in-Some.amount c.in-Some.ensures.1 c.args.period c.args.table.now c.add.new.self c.add.result changed
