-- A table of totals worked out from nothing.
use Rattle.std.specs.Prelude.{◌≡◌, ℕ, ◌*◌, List, length, Ok, Err, Result, ◌≢◌}
use Rattle.market.specs.declared.refusal.Refusal.{Refusal}
use Rattle.market.specs.Refusal.{number_of}
use Rattle.amounts.specs.Laws.{Algebra}
use Rattle.totals.specs.declared.totals.Totals.{Totals}
use Rattle.totals.specs.Rules.{Rules}
use Rattle.totals.specs.Table.{HasTotal, total_in, SameTable}
use Rattle.totals.specs.Moves.{Shifted}
use Rattle.totals.specs.Holds.{Entries, total_of, Holds}

-- what the entries of n meters bring is added to the totals of a period
abbrev pub Added : {M : Type 0} → Algebra M → Rules M → Entries → ℕ → ℕ → Totals M → Totals M → Type 0
Added a rules entries period n before after = Shifted a period (λ q total. a.plus total (total_of a rules entries n period q)) before after

-- to every total of a table is added what the entries of n meters bring
pub record Raised {M : Type 0} (a : Algebra M) (rules : Rules M) (entries : Entries) (n : ℕ) (before after : Totals M) : Type 0 where
  pub same : SameTable before after
  pub totals : (p q : ℕ) → HasTotal before.periods before.places p q →
      total_in a.zero after p q ≡ a.plus (total_in a.zero before p q) (total_of a rules entries n p q)

-- every total of a table is what the entries of n meters bring, whatever it was before
pub record Filled {M : Type 0} (a : Algebra M) (rules : Rules M) (entries : Entries) (n : ℕ) (before after : Totals M) : Type 0 where
  pub same : SameTable before after
  pub totals : (p q : ℕ) → HasTotal before.periods before.places p q → total_in a.zero after p q ≡ total_of a rules entries n p q

-- the same of amounts, of which there is one for each period and place; else they get 1, and nothing is changed
abbrev pub Settled : {M : Type 0} → Algebra M → Rules M → Entries → ℕ → ℕ → List M → List M → Result (Unit {0}) Refusal → Type 0
Settled a rules entries n periods cells next (Ok done) = (length cells ≡ periods * rules.places) × Holds a rules entries n periods next
Settled a rules entries n periods cells next (Err e) = (length cells ≢ periods * rules.places) × (number_of e ≡ 1) × (next ≡ cells)
