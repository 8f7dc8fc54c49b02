use Rattle.std.proofs.Common.{◌≡◌, length, get_or, ap, ◌∙◌, rules}
use Rattle.amounts.specs.Sums.{sums}
use Rattle.amounts.proofs.Exactly.{exact_4096}
use Rattle.amounts.proofs.sum.sum_of.Goals as goal

pub returns : goal.returns
returns g c =
    let m = g.M.Amount in
    let a = m.algebra in
    let list = c.args.amounts.now in
    let all : c.loop-amount.sum ≡ sums a (λ i. get_or list i a.zero) (length list) = search rules in
    record {
      value = all;
      exact = λ k few small. ap (λ x. m.figure x k) all ∙ exact_4096 m.exact (λ i. get_or list i a.zero) k (length list) few small;
    }
