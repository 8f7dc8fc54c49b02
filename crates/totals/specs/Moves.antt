-- What becomes of a table where entries come and go.
use Rattle.std.specs.Prelude.{◌≡◌, ℕ, cond, ◌==◌}
use Rattle.amounts.specs.Laws.{Algebra}
use Rattle.totals.specs.declared.totals.Totals.{Totals}
use Rattle.totals.specs.declared.entry.Entry.{Entry}
use Rattle.totals.specs.Rules.{Rules}
use Rattle.totals.specs.Entry.{part_of}
use Rattle.totals.specs.Table.{HasTotal, total_in, SameTable}

-- the totals of one period are changed, each by a change of its own, and no others
pub record Shifted {M : Type 0} (a : Algebra M) (period : ℕ) (change : ℕ → M → M) (before after : Totals M) : Type 0 where
  pub same : SameTable before after
  pub totals : (p q : ℕ) → HasTotal before.periods before.places p q →
      total_in a.zero after p q ≡ cond (p == period) (change q (total_in a.zero before p q)) (total_in a.zero before p q)

-- what an entry brings is added to the totals of a period
abbrev pub EntryAdded : {M : Type 0} → Algebra M → Rules M → ℕ → Entry → Totals M → Totals M → Type 0
EntryAdded a rules period e = Shifted a period (λ q total. a.plus total (part_of a rules e q))

-- what an entry brought is taken away from them
abbrev pub EntryTaken : {M : Type 0} → Algebra M → Rules M → ℕ → Entry → Totals M → Totals M → Type 0
EntryTaken a rules period e = Shifted a period (λ q total. a.minus total (part_of a rules e q))

-- both, of two entries
abbrev pub EntryReplaced : {M : Type 0} → Algebra M → Rules M → ℕ → Entry → Entry → Totals M → Totals M → Type 0
EntryReplaced a rules period old new = Shifted a period (λ q total. a.plus (a.minus total (part_of a rules old q)) (part_of a rules new q))
