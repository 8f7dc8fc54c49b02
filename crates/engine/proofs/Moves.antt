-- Moves that are made where the amounts are known to fit.
use Rattle.std.proofs.Common.{◌≡◌, ℕ, ◌*◌, List, length, Ok, Err, Result, subst}
use Rattle.market.specs.declared.refusal.Refusal.{Refusal}
use Rattle.amounts.specs.Laws.{Algebra}
use Rattle.totals.specs.declared.entry.Entry.{Entry}
use Rattle.totals.specs.Rules.{Rules}
use Rattle.totals.specs.Moving.{Move, Moved}

-- amounts of which there is one for each period and place do move, by the rules of the same report
pub moved_fits : {M : Type 0} (a : Algebra M) (rules now : Rules M) (periods p : ℕ) (old new : Entry) (cells next : List M) (x : Result (Unit {0}) Refusal) →
    now ≡ rules → length cells ≡ periods * rules.places → Moved a now periods p old new cells next x → Move a rules periods p old new cells next
moved_fits a rules now periods p old new cells next (Ok done) same fits h = subst (λ r. Move a r periods p old new cells next) same h.1
moved_fits a rules now periods p old new cells next (Err x) same fits h = absurd (subst (λ r. length cells ≡ periods * r.places → ⊥) same h.0 fits)
