use Rattle.std.proofs.Common.{w64, rules}
use Rattle.std.proofs.lemmas.Int.{wrapping_sub_is}
use Rattle.amounts.specs.BmUnit.{same_units, fewer_units}
use Rattle.amounts.proofs.bm_unit.BmUnitAmountAmount.take_away.Goals as goal

pub returns : goal.returns
returns c =
    let x = c.args.self in
    let y = c.args.other in
    let loss = wrapping_sub_is w64 x.loss y.loss (record { sfits = x.loss_fits }) (record { sfits = y.loss_fits }) in
    same_units _ (fewer_units x y) (search rules) (search rules) (search rules)
