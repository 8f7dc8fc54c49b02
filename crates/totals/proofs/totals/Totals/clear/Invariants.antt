use Rattle.std.proofs.Common.{◌≡◌, ℕ, ◌<◌, get_or}
use Rattle.totals.proofs.totals.Totals.clear.Given as goal

abbrev pub invariant-loop-total : goal.invariant-loop-total
invariant-loop-total g l =
    let m = g.M.Amount in
    (k : ℕ) → k < l.total-index → get_or l.total-items k m.algebra.zero ≡ m.algebra.zero
