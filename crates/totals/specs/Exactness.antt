-- Totals that lose nothing.
use Rattle.std.specs.Prelude.{◌≡◌, ℕ, ◌^◌, ◌<◌, ◌≤◌, ℤ, IfSome}
use Rattle.amounts.specs.Laws.{Algebra}
use Rattle.amounts.specs.Sums.{sums, whole}
use Rattle.totals.specs.declared.entry.Entry.{Entry}
use Rattle.totals.specs.Rules.{Rules}
use Rattle.totals.specs.Entry.{part_of}
use Rattle.totals.specs.Holds.{Entries, total_of}

-- the volume of an entry fits 32 bits and its factor 16, as in the code they always do
abbrev pub EntryFits : Entry → Type 0
EntryFits e = IfSome e.used (λ u. u.volume < 2 ^ 32) × IfSome e.factor (λ f. f < 2 ^ 16)

-- each figure of a total of at most 4,096 meters is the sum of that figure, in whole numbers, of what their entries bring
abbrev pub ExactTotals : {M : Type 0} → Algebra M → Rules M → (M → ℕ → ℤ) → Type 0
ExactTotals a rules figure =
    (entries : Entries) (n p q k : ℕ) → n ≤ 4096 → ((i : ℕ) → i < n → EntryFits (entries i p)) →
    figure (total_of a rules entries n p q) k ≡ sums whole (λ i. figure (part_of a rules (entries i p) q) k) n
