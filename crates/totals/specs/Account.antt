-- A report with its totals.
use Rattle.std.specs.Prelude.{◌≡◌, length}
use Rattle.totals.specs.declared.account.Account.{Account}

-- the report is the same, and so are the memory that is lent and its length, whatever the totals are
pub record SameAccount {R M : Type 0} (before after : Account R M) : Type 0 where
  pub report : after.report ≡ before.report
  pub lent : after.totals.ghost_name ≡ before.totals.ghost_name
  pub size : length after.totals.now ≡ length before.totals.now
