use Rattle.std.proofs.Common.{◌≡◌, get_or}
use Rattle.amounts.specs.Sums.{sums}
use Rattle.amounts.proofs.sum.sum_of.Given as goal

abbrev pub invariant-loop-amount : goal.invariant-loop-amount
invariant-loop-amount g l = let a = g.M.Amount.algebra in l.sum ≡ sums a (λ i. get_or l.amounts i a.zero) l.amount-index
