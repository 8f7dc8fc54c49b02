use Rattle.market.specs.Lowest.{turned_down}
use Rattle.rules.specs.Joined.{LowestOf}
use Rattle.rules.specs.Tables.{row_of}
use Rattle.rules.proofs.lowest.lowest_of_rows.Given as goal

abbrev pub invariant-loop-i : goal.invariant-loop-i
invariant-loop-i g l = LowestOf (λ m. goal.F-post g l.check (row_of l.rows m) m) l.i (turned_down l.found)
