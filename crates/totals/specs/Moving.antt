-- A move of a table: one entry takes the place of another.
use Rattle.std.specs.Prelude.{◌≡◌, ℕ, ◌*◌, List, length, Ok, Err, Result, ◌≢◌}
use Rattle.market.specs.declared.refusal.Refusal.{Refusal}
use Rattle.market.specs.Refusal.{number_of}
use Rattle.amounts.specs.Laws.{Algebra}
use Rattle.totals.specs.declared.entry.Entry.{Entry}
use Rattle.totals.specs.Rules.{Rules}
use Rattle.totals.specs.Holds.{Exchanged, Replaced, AtMostTwo, InPeriod}

-- the exchange, and what follows from it
pub record Move {M : Type 0} (a : Algebra M) (rules : Rules M) (periods period : ℕ) (old new : Entry) (cells next : List M) : Type 0 where
  pub exchanged : Exchanged a rules periods period old new cells next
  pub replaced : Replaced a rules periods period old new cells next
  pub two : AtMostTwo a rules periods period cells next
  pub elsewhere : InPeriod a rules periods period cells next

-- amounts of which there is one for each period and place move so; others get 1, and nothing is changed
abbrev pub Moved : {M : Type 0} → Algebra M → Rules M → ℕ → ℕ → Entry → Entry → List M → List M → Result (Unit {0}) Refusal → Type 0
Moved a rules periods period old new cells next (Ok done) = (length cells ≡ periods * rules.places) × Move a rules periods period old new cells next
Moved a rules periods period old new cells next (Err e) = (length cells ≢ periods * rules.places) × (number_of e ≡ 1) × (next ≡ cells)
