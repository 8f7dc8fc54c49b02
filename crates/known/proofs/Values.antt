-- The known values, as one theorem: every one follows from its definition.
use Rattle.std.proofs.Common.{rules}
use Rattle.known.specs.Values.{KnownValues}
use Rattle.known.proofs.Defaults.{smart_class}

pub known_values : KnownValues
known_values = record {
  spring = search rules;
  autumn = search rules;
  summer = search rules;
  foremost = search rules;
  smart_default = λ m l s x e. (search rules, smart_class m l s x);
  unused = search rules;
}
