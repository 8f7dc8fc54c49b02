use Rattle.std.proofs.Common.{◌≡◌, true, false, None, ◌∙◌, rules}
use Rattle.std.proofs.lemmas.Bool.{cond-true, cond-false}
use Rattle.meters.specs.Lawful.{is_lawful}
use Rattle.meters.proofs.Laws.{lawful_true, unlawful_false}
use Rattle.totals.proofs.entry.named.Goals as goal

pub returns-in_err-meter : goal.returns-in_err-meter
returns-in_err-meter g c =
    let none : c.from_residual-in_err-meter.result ≡ None = search rules in
    let unlawful : is_lawful c.args.entry.row ≡ false = unlawful_false c.args.entry.row (search rules) in
    rw none (λ q. cond-false _ _ _ unlawful)

pub returns : goal.returns
returns g c =
    let lawful : is_lawful c.args.entry.row ≡ true = lawful_true c.args.entry.row (search rules) in
    (search rules, λ q. cond-true _ _ _ lawful ∙ search rules)
