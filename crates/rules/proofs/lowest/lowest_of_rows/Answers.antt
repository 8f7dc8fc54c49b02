use Rattle.std.proofs.Common.{◌≡◌, ◌+◌, ◌-◌, arith}
use Rattle.rules.proofs.Lowests.{lowest_more}
use Rattle.rules.specs.Tables.{row_of}
use Rattle.rules.proofs.lowest.lowest_of_rows.Given as given
use Rattle.rules.proofs.lowest.lowest_of_rows.Goals as goal

pub loop-i-preserved : goal.loop-i-preserved
loop-i-preserved g c =
    let back : c.loop-i.i + 1 - 1 ≡ c.loop-i.i = omega arith in
    rw c.earlier-found.ensures (lowest_more (λ m. given.F-post g c.args.check (row_of c.args.rows.now m) m) c.loop-i.i _ c.check.result c.loop-i.invariant (rw back c.check.ensures))
