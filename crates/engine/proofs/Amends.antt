-- The totals follow an amendment, period by period.
use Rattle.std.proofs.Common.{◌≡◌, ℕ, ◌+◌, ◌-◌, ◌<◌, ◌≤◌, List, length, get_or, set, Option, sym, refl, ap, ◌∙◌, subst, inl, inr, ⊎_elim, arith, get_or-set_other, get_or-set_same}
use Rattle.std.proofs.lemmas.Bool.{cases_eq, cases_lt}
use Rattle.meters.specs.declared.row.MeterRow.{MeterRow}
use Rattle.stores.specs.Grid.{Grid}
use Rattle.amounts.specs.Laws.{Algebra, Laws}
use Rattle.totals.specs.declared.entry.Entry.{Entry}
use Rattle.totals.specs.Rules.{Rules}
use Rattle.totals.specs.Table.{HasTotal, total_at}
use Rattle.totals.specs.Holds.{Holds, Replaced, periods_below}
use Rattle.totals.specs.Moving.{Move}
use Rattle.totals.proofs.Chains.{periods_none, periods_more, periods_all}
use Rattle.rules.specs.Tables.{row_of, no_row}
use Rattle.engine.specs.Entries.{entry_by, entries_of}
use Rattle.engine.specs.Changes.{TwoIn, TwoEach, AmendRight}

module _ {M : Type 0} {a : Algebra M} (laws : Laws a) (rules : Rules M) (periods : ℕ) (grid : Grid) (factors shapes : List (Option ℕ)) (m : ℕ) (old new : MeterRow) where
  -- the periods below i follow the new record already
  abbrev pub AmendFollowed : ℕ → List M → List M → Type 0
  AmendFollowed i first cells =
      (rows : List MeterRow) → 1 ≤ m → m ≤ length rows → row_of rows m ≡ old →
      Holds a rules (entries_of grid rows factors shapes) (length rows) periods first →
      Holds a rules (periods_below (entries_of grid rows factors shapes) (entries_of grid (set rows (m - 1) new) factors shapes) i) (length rows) periods cells

  pub amend_none : (first : List M) → AmendFollowed 1 first first
  amend_none first rows some few was = periods_none laws rules (length rows) periods (entries_of grid rows factors shapes) (entries_of grid (set rows (m - 1) new) factors shapes) first

  pub amend_more : (i : ℕ) (first cells next : List M) →
      Move a rules periods i (entry_by factors shapes old (grid m i) i) (entry_by factors shapes new (grid m i) i) cells next → AmendFollowed i first cells → AmendFollowed (i + 1) first next
  amend_more i first cells next move h rows some few was holds =
      let before = entries_of grid rows factors shapes in
      let after = entries_of grid (set rows (m - 1) new) factors shapes in
      let back : m - 1 + 1 ≡ m = omega arith in
      let old_is : entry_by factors shapes old (grid m i) i ≡ before (m - 1) i =
      ap (λ row. entry_by factors shapes row (grid m i) i) (sym was) ∙ ap (λ k. entry_by factors shapes (row_of rows m) (grid k i) i) (sym back) in
      let new_is : entry_by factors shapes new (grid m i) i ≡ after (m - 1) i =
      ap (λ row. entry_by factors shapes row (grid m i) i) (sym (get_or-set_same rows (m - 1) new no_row (omega arith)))
      ∙ ap (λ k. entry_by factors shapes (get_or (set rows (m - 1) new) (m - 1) no_row) (grid k i) i) (sym back) in
      periods_more laws rules (length rows) periods before after (m - 1) i cells next (omega arith)
      (λ j p _ _ d. ap (λ row. entry_by factors shapes row (grid (j + 1) p) p) (get_or-set_other rows (m - 1) j new no_row d))
      (subst (λ e. Replaced a rules periods i (before (m - 1) i) e cells next) new_is
      (subst (λ e. Replaced a rules periods i e (entry_by factors shapes new (grid m i) i) cells next) old_is move.replaced))
      (h rows some few was holds)

  pub amend_all : (i : ℕ) (first cells : List M) → periods < i → AmendFollowed i first cells → AmendRight a rules periods grid factors shapes m old new first cells
  amend_all i first cells past h rows some few was holds =
      periods_all laws rules (length rows) periods (entries_of grid rows factors shapes) (entries_of grid (set rows (m - 1) new) factors shapes) i cells past (h rows some few was holds)

-- at most two totals in each period below i have moved, and none in the others
module _ {M : Type 0} (a : Algebra M) (rules : Rules M) (periods : ℕ) where
  pub record TwoBelow (i : ℕ) (first cells : List M) : Type 0 where
    pub below : (p : ℕ) → p < i → TwoIn a rules periods p first cells
    pub above : (p q : ℕ) → i ≤ p → HasTotal periods rules.places p q → total_at a.zero rules.places cells p q ≡ total_at a.zero rules.places first p q

  pub two_none : (first : List M) → TwoBelow 1 first first
  two_none first = record { below = λ p l. (0, (0, λ q there. inl refl)); above = λ p q l there. refl }

  pub two_more : (i : ℕ) (old new : Entry) (first cells next : List M) → Move a rules periods i old new cells next → TwoBelow i first cells → TwoBelow (i + 1) first next
  two_more i old new first cells next move h = record {
    below = λ p l. ⊎_elim
        (λ (e : p ≡ i). (
          move.two.0,
          (
            move.two.1.0,
            λ q there. ⊎_elim
                (λ same. inl (same ∙ h.above p q (omega arith) there))
                (λ moved. inr moved.1)
                (move.two.1.1 p q there),
          ),
        ))
        (λ (d : p ≡ i → ⊥).
        let before : TwoIn a rules periods p first cells = h.below p (omega arith) in
        (before.0, (before.1.0, λ q there. ⊎_elim (λ same. inl (move.elsewhere p q there d ∙ same)) inr (before.1.1 q there))))
        (cases_eq p i);
    above = λ p q l there. move.elsewhere p q there (λ e. omega arith) ∙ h.above p q (omega arith) there;
  }

  pub two_all : (i : ℕ) (first cells : List M) → TwoBelow i first cells → TwoEach a rules periods first cells
  two_all i first cells h p = ⊎_elim (λ (l : p < i). h.below p l) (λ (l : i ≤ p). (0, (0, λ q there. inl (h.above p q l there)))) (cases_lt p i)
