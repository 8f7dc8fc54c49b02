-- The totals follow a change of a factor or a shape, meter by meter.
use Rattle.std.proofs.Common.{◌≡◌, ℕ, ◌+◌, ◌<◌, ◌≤◌, List, length, get_or, Option, sym, refl, ap, ◌∙◌, subst, arith}
use Rattle.readings.specs.declared.reading.Reading.{Reading}
use Rattle.meters.specs.declared.row.MeterRow.{MeterRow}
use Rattle.stores.specs.Grid.{Grid}
use Rattle.amounts.specs.Laws.{Algebra, Laws}
use Rattle.totals.specs.declared.entry.Entry.{Entry}
use Rattle.totals.specs.Rules.{Rules}
use Rattle.totals.specs.Holds.{Entries, Replaced}
use Rattle.totals.specs.Moving.{Move}
use Rattle.totals.proofs.Chains.{meters_none, meters_more, meters_passed, meters_all}
use Rattle.rules.specs.Tables.{no_row, entry_in, factor_of, shape_of}
use Rattle.rules.specs.declared.revision.Revision.{Revision}
use Rattle.rules.specs.declared.revision.Revision.TheVariants.{Factor, Shape}
use Rattle.engine.specs.Entries.{entry_with, entry_by, entries_of}
use Rattle.engine.specs.Revision.{Concerns, with_entry, factors_after, shapes_after, revised_entry, Reaches}
use Rattle.engine.specs.Changes.{ReviseRight, RevisedFrom}
use Rattle.engine.proofs.Tables.{set_entry, set_others}

module _ (factors shapes : List (Option ℕ)) (p : ℕ) where
  -- a record of the class counts by the new entry
  revised_class : (revision : Revision) (row : MeterRow) (stored : Option Reading) → Reaches revision factors shapes p → Concerns revision row →
      revised_entry revision factors shapes row stored p ≡ entry_by (factors_after revision factors p) (shapes_after revision shapes p) row stored p
  revised_class (Factor k f) row stored reach e =
      ap (entry_with row stored (shape_of shapes row.shape_class p))
      (sym (ap (λ c. entry_in 40 (with_entry 40 factors k p f) c p) e ∙ set_entry 40 factors k p f reach.0 reach.1 reach.2 (omega arith)))
  revised_class (Shape k v) row stored reach e =
      ap (λ s. entry_with row stored s (factor_of factors row.loss_class p))
      (sym (ap (λ c. entry_in 32 (with_entry 32 shapes k p v) c p) e ∙ set_entry 32 shapes k p v reach.0 reach.1 reach.2 (omega arith)))

  -- a record of another class, and every record in another period, as before
  revised_others : (revision : Revision) (row : MeterRow) (stored : Option Reading) (q : ℕ) → Reaches revision factors shapes p → (Concerns revision row → q ≡ p → ⊥) →
      entry_by (factors_after revision factors p) (shapes_after revision shapes p) row stored q ≡ entry_by factors shapes row stored q
  revised_others (Factor k f) row stored q reach ne =
      ap (entry_with row stored (shape_of shapes row.shape_class q)) (set_others 40 factors k p f reach.0 reach.1 reach.2 row.loss_class q ne)
  revised_others (Shape k v) row stored q reach ne =
      ap (λ s. entry_with row stored s (factor_of factors row.loss_class q)) (set_others 32 shapes k p v reach.0 reach.1 reach.2 row.shape_class q ne)

module _ {M : Type 0} {a : Algebra M} (laws : Laws a) (rules : Rules M) (periods : ℕ) (grid : Grid) (rows : List MeterRow) (factors shapes : List (Option ℕ)) (revision : Revision) (p : ℕ) where
  abbrev before : Entries
  before = entries_of grid rows factors shapes

  abbrev after : Entries
  after = entries_of grid rows (factors_after revision factors p) (shapes_after revision shapes p)

  abbrev pub From : ℕ → ℕ → List M → List M → Type 0
  From i j cells next = RevisedFrom a rules periods grid rows factors shapes revision p i j cells next

  -- a meter of the class
  pub revise_moved : (i : ℕ) (old new : Entry) (cells next : List M) → i < length rows → Concerns revision (get_or rows i no_row) →
      old ≡ entry_by factors shapes (get_or rows i no_row) (grid (i + 1) p) p → new ≡ revised_entry revision factors shapes (get_or rows i no_row) (grid (i + 1) p) p →
      Move a rules periods p old new cells next → From i (i + 1) cells next
  revise_moved i old new cells next within concerns was is move = record {
    follows = λ reach. meters_more laws rules (length rows) periods before after p i cells next within
        (λ j q _ _ d. revised_others factors shapes p revision (get_or rows j no_row) (grid (j + 1) q) q reach (λ _. d))
        (subst (λ e. Replaced a rules periods p (before i p) e cells next) (is ∙ revised_class factors shapes p revision (get_or rows i no_row) (grid (i + 1) p) reach concerns)
        (subst (λ e. Replaced a rules periods p e new cells next) was move.replaced));
    elsewhere = move.elsewhere;
  }

  -- a meter of another class
  pub revise_passed : (i : ℕ) (cells : List M) → (Concerns revision (get_or rows i no_row) → ⊥) → From i (i + 1) cells cells
  revise_passed i cells other = record {
    follows = λ reach. meters_passed laws rules (length rows) periods before after i cells
        (λ q _. revised_others factors shapes p revision (get_or rows i no_row) (grid (i + 1) q) q reach (λ c _. other c));
    elsewhere = λ j q h d. refl;
  }

  -- no meter yet, and one after the other
  pub revise_none : (cells : List M) → From 0 0 cells cells
  revise_none cells = record { follows = λ reach h. h; elsewhere = λ j q h d. refl }

  pub revise_then : (i j k : ℕ) (cells next last : List M) → From i j cells next → From j k next last → From i k cells last
  revise_then i j k cells next last one two = record {
    follows = λ reach h. two.follows reach (one.follows reach h);
    elsewhere = λ q r h d. two.elsewhere q r h d ∙ one.elsewhere q r h d;
  }

  -- all of them
  pub revise_all : (i : ℕ) (cells next : List M) → length rows ≤ i → From 0 i cells next → ReviseRight a rules periods grid rows factors shapes revision p cells next
  revise_all i cells next all h reach holds =
      meters_all laws rules (length rows) periods before after i next all
      (h.follows reach (meters_none laws rules (length rows) periods before after cells holds))
