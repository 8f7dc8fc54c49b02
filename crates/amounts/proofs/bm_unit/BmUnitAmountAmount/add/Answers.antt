use Rattle.std.proofs.Common.{rules}
use Rattle.std.proofs.lemmas.Int.{wraps}
use Rattle.amounts.specs.BmUnit.{same_units}
use Rattle.amounts.proofs.bm_unit.BmUnitAmountAmount.add.Goals as goal

pub returns : goal.returns
returns c = search (rules, wraps, same_units)
