-- An account after one change and another.
use Rattle.std.proofs.Common.{◌∙◌}
use Rattle.totals.specs.declared.account.Account.{Account}
use Rattle.totals.specs.Account.{SameAccount}

-- what stays the same over both stays the same
pub same_then : {R M : Type 0} (x y z : Account R M) → SameAccount x y → SameAccount y z → SameAccount x z
same_then x y z one two = record { report = two.report ∙ one.report; lent = two.lent ∙ one.lent; size = two.size ∙ one.size }
