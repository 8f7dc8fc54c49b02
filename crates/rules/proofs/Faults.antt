-- The faults of one record, joined.
use Rattle.std.proofs.Common.{◌≡◌, ℕ, ◌≤◌, ◌⊎◌, List, Some, Option, sym, subst, ⊎_elim, arith}
use Rattle.market.specs.Lowest.{Lowest}
use Rattle.readings.specs.declared.reading.Reading.{Reading}
use Rattle.meters.specs.declared.row.MeterRow.{MeterRow}
use Rattle.meters.specs.Lawful.{Lawful}
use Rattle.stores.specs.Grid.{Grid}
use Rattle.rules.specs.Tables.{factor_of, shape_of}
use Rattle.rules.specs.Places.{Unclassed, TableFault, TablesFault, ReadingFault, PlaceFault, LawFault}
use Rattle.rules.proofs.Lowests.{lowest_before, lowest_after}

-- the faults of a factor and a shape are 6 or higher
pub table_late : (row : MeterRow) (factor shape : Option ℕ) (k : ℕ) → TableFault row factor shape k → 6 ≤ k
table_late row factor shape k = ⊎_elim (λ y. let e : k ≡ 6 = y.0 in omega arith)
    (⊎_elim (λ y. let e : k ≡ 7 = y.0 in omega arith) (λ y. let e : k ≡ 8 = y.0 in omega arith))

module _ (grid : Grid) (factors shapes : List (Option ℕ)) (row : MeterRow) (m : ℕ) where
  -- those of a place are 5 or higher
  pub place_late : (p k : ℕ) → PlaceFault grid factors shapes row m p k → 5 ≤ k
  place_late p k = ⊎_elim (λ y. let e : k ≡ 5 = y.0 in omega arith) (λ y. let l = table_late row _ _ k y in omega arith)

  -- where what is stored has a class, those of the factor and the shape are left
  pub place_classed : (p : ℕ) (stored : Option Reading) (factor shape r : Option ℕ) → stored ≡ grid m p →
      factor ≡ factor_of factors row.loss_class p → shape ≡ shape_of shapes row.shape_class p →
      (Unclassed row stored → ⊥) → Lowest (TableFault row factor shape) r → Lowest (PlaceFault grid factors shapes row m p) r
  place_classed p stored factor shape r e f g clear h =
      lowest_after (ReadingFault grid row m p) (TablesFault factors shapes row p) r
      (λ k y. clear (subst (Unclassed row) (sym e) y.1))
      (subst (λ s. Lowest (TableFault row (factor_of factors row.loss_class p) s) r) g
      (subst (λ s. Lowest (TableFault row s shape) r) f h))

-- a lawful record has the other faults, and an unlawful one 4, where the others are higher
module _ (row : MeterRow) (B : ℕ → Type 0) where
  pub law_kept : (r : Option ℕ) → Lawful row → Lowest B r → Lowest (λ n. LawFault row n ⊎ B n) r
  law_kept r lawful h = lowest_after (LawFault row) B r (λ k y. y.1 lawful) h

  pub law_broken : (n : ℕ) → n ≡ 4 → (Lawful row → ⊥) → ((k : ℕ) → B k → 5 ≤ k) → Lowest (λ k. LawFault row k ⊎ B k) (Some n)
  law_broken n e unlawful late =
      lowest_before (LawFault row) B n ((e, unlawful), λ k l y. let f : k ≡ 4 = y.0 in omega arith) (λ k y. let l = late k y in omega arith)
