use Rattle.std.proofs.Common.{◌≡◌, ◌+◌, ◌-◌, arith}
use Rattle.rules.proofs.Lowests.{lowest_next}
use Rattle.rules.proofs.lowest.lowest_of_periods.Given as given
use Rattle.rules.proofs.lowest.lowest_of_periods.Goals as goal
use Rattle.rules.proofs.lowest.lowest_of_periods.Goals.{else-loop-period-test, then-loop-period-test+else-period-periods}

pub loop-period-preserved : goal.loop-period-preserved
loop-period-preserved g c =
    let back : c.loop-period.period + 1 - 1 ≡ c.loop-period.period = omega arith in (
      rw back (rw c.earlier-found.ensures (lowest_next (given.F-post g c.args.check) c.loop-period.period _ c.check.result (omega arith) c.loop-period.invariant.0 c.check.ensures)),
      omega arith,
    )

pub returns : goal.returns
returns g c = elim c.loop-period-test.branch [
  | else-loop-period-test w ↦
      let e : c.loop-period.period - 1 ≡ c.args.periods = omega arith in
      rw w.found-is (rw (← e) c.loop-period.invariant.0)
  | then-loop-period-test+else-period-periods w ↦
      let e : c.loop-period.period ≡ c.args.periods = omega arith in
      rw w.found-is (rw w.earlier-found.ensures (rw (← e) (lowest_next (given.F-post g c.args.check) c.loop-period.period _ w.check.result (omega arith) c.loop-period.invariant.0 w.check.ensures)))
]
