use Rattle.std.proofs.Common.{◌-◌, ◌≤◌}
use Rattle.market.specs.Lowest.{turned_down}
use Rattle.rules.specs.Joined.{LowestOf}
use Rattle.rules.proofs.lowest.lowest_of_periods.Given as goal

abbrev pub invariant-loop-period : goal.invariant-loop-period
invariant-loop-period g l = LowestOf (goal.F-post g l.check) (l.period - 1) (turned_down l.found) × (l.period - 1 ≤ l.periods)
