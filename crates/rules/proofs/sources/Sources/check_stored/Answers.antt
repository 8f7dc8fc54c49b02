use Rattle.std.proofs.Common.{◌≡◌, Err, arith, rules}
use Rattle.market.specs.Lowest.{turned_down}
use Rattle.rules.specs.Joined.{Among}
use Rattle.rules.specs.Places.{ReadingFault}
use Rattle.rules.proofs.Faults.{law_kept, law_broken}
use Rattle.rules.proofs.sources.Sources.check_stored.Goals as goal

pub returns-in_err-new : goal.returns-in_err-new
returns-in_err-new g c =
    let e : c.from_residual.result ≡ Err c.in_err-new.field-0.0 = search rules in
    rw e (law_broken c.args.row (Among c.args.periods (ReadingFault (g.S.Store.grid c.args.self.now.store.now) c.args.row c.args.number)) _ (search rules) (search rules) (λ k y. let e : k ≡ 5 = y.1.2.0 in omega arith))

pub returns : goal.returns
returns g c =
    law_kept c.args.row (Among c.args.periods (ReadingFault (g.S.Store.grid c.args.self.now.store.now) c.args.row c.args.number)) (turned_down c.check_readings.result) (search rules)
    (rw c.in_ok-new.ensures.0 at c.check_readings.ensures)
