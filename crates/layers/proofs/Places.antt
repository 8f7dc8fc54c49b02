-- Where a place of a joined day lies.
use Rattle.std.proofs.Common.{◌≡◌, ℕ, ◌≤◌, true, ◌&&◌, leb, Some, None, ap, ◌∙◌, arith}
use Rattle.std.proofs.lemmas.Bool.Decides.{nat_tests}
use Rattle.std.proofs.lemmas.Bool.{cond-true}
use Rattle.market.specs.declared.clock.UtcDate.{UtcDate}
use Rattle.market.specs.declared.clock.UtcDate.TheVariants.{DateBefore, TheDate}
use Rattle.market.specs.declared.clock.DayKind.{DayKind}
use Rattle.market.specs.declared.clock.DayKind.TheVariants.{Winter, Summer, SpringChange, AutumnChange}
use Rattle.market.specs.Clock.{SameTime}
use Rattle.stores.specs.Grid.{Grid}
use Rattle.layers.specs.Joined.{utc_of, on_date, on_dates, joined_grid}

-- the UTC period of a Settlement Period is the one that the clocks have
pub utc_found : (k : DayKind) (p u : ℕ) (d : UtcDate) → SameTime k p d u → utc_of k p ≡ Some (d, u)
utc_found Winter p u DateBefore h = absurd h
utc_found Winter p u TheDate h = grind (arith, nat_tests)
utc_found Summer p u DateBefore h = grind (arith, nat_tests)
utc_found Summer p u TheDate h = grind (arith, nat_tests)
utc_found SpringChange p u DateBefore h = absurd h
utc_found SpringChange p u TheDate h = grind (arith, nat_tests)
utc_found AutumnChange p u DateBefore h = grind (arith, nat_tests)
utc_found AutumnChange p u TheDate h = grind (arith, nat_tests)

-- what a joined day shows at a place that lies on one of its dates
pub shown_on : (k : DayKind) (ms m p u : ℕ) (d : UtcDate) (before date : Grid) → 1 ≤ m → m ≤ ms → SameTime k p d u →
    joined_grid k ms before date m p ≡ on_date before date m d u
shown_on k ms m p u d before date l h same =
    let inside : (leb 1 m && leb m ms) ≡ true = grind (arith, nat_tests) in
    cond-true (leb 1 m && leb m ms) (on_dates before date m (utc_of k p)) None inside ∙ ap (on_dates before date m) (utc_found k p u d same)
