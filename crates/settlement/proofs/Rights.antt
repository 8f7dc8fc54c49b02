-- Totals that are right for what is there.
use Rattle.std.proofs.Common.{◌≡◌, ℕ, ◌≤◌, List, length, ℤ, Option, sym, ap, ◌∙◌, subst}
use Rattle.meters.specs.declared.row.MeterRow.{MeterRow}
use Rattle.stores.specs.Grid.{Grid}
use Rattle.amounts.specs.Sums.{sums, whole}
use Rattle.totals.specs.Entry.{part_of}
use Rattle.totals.specs.Holds.{Holds, total_of}
use Rattle.totals.specs.Exactness.{ExactTotals}
use Rattle.rules.specs.Standing.{Standing}
use Rattle.engine.specs.Entries.{entries_of}
use Rattle.settlement.specs.World.{ReportMeaning}
use Rattle.settlement.specs.Steps.{Right}
use Rattle.settlement.specs.Book.{Book, Shows}
use Rattle.settlement.specs.Runs.{BookTotals, BookExact, Sound}
use Rattle.settlement.proofs.Foremosts.{shows_one}
use Rattle.settlement.proofs.Exacts.{entry_fits}

module _ {M : Type 0} (r : ReportMeaning M) where
  -- the same totals over the same things are right again
  pub right_same : (x y : Standing) (cells next : List M) → y.sizes ≡ x.sizes → ((i j : ℕ) → y.grid i j ≡ x.grid i j) →
      y.rows ≡ x.rows → y.factors ≡ x.factors → y.shapes ≡ x.shapes → next ≡ cells → Right r x cells → Right r y next
  right_same x y cells next sizes grid rows factors shapes same h =
      subst (Right r y) (sym same)
      (subst (λ u. Holds r.algebra r.rules (entries_of y.grid y.rows y.factors u) (length y.rows) y.sizes.periods cells) (sym shapes)
      (subst (λ u. Holds r.algebra r.rules (entries_of y.grid y.rows u x.shapes) (length y.rows) y.sizes.periods cells) (sym factors)
      (subst (λ u. Holds r.algebra r.rules (entries_of y.grid u x.factors x.shapes) (length u) y.sizes.periods cells) (sym rows)
      (subst (λ u. Holds r.algebra r.rules (entries_of u x.rows x.factors x.shapes) (length x.rows) y.sizes.periods cells) (λ i m p. sym (grid m p) i)
      (subst (λ u. Holds r.algebra r.rules (entries_of x.grid x.rows x.factors x.shapes) (length x.rows) u.periods cells) (sym sizes) h)))))

  -- totals that are right for what the book has are the book's
  pub right_book : (b : Book) (x : Standing) (cells : List M) → x.rows ≡ b.rows → x.factors ≡ b.factors → x.shapes ≡ b.shapes → Shows b x.grid →
      Right r x cells → BookTotals r x.sizes.periods b cells
  right_book b x cells rows factors shapes shown h p q there grid shows =
      h p q there
      ∙ ap (λ u. total_of r.algebra r.rules (entries_of u x.rows x.factors x.shapes) (length x.rows) p q) (shows_one b x.grid grid shown shows)
      ∙ ap (λ u. total_of r.algebra r.rules (entries_of grid u x.factors x.shapes) (length u) p q) rows
      ∙ ap (λ u. total_of r.algebra r.rules (entries_of grid b.rows u x.shapes) (length b.rows) p q) factors
      ∙ ap (λ u. total_of r.algebra r.rules (entries_of grid b.rows b.factors u) (length b.rows) p q) shapes

  -- and exact, where nothing is missing and there are few enough meters
  pub right_exact : (b : Book) (x : Standing) (cells : List M) → ExactTotals r.algebra r.rules r.figure → Sound x → length x.rows ≤ 4096 →
      x.rows ≡ b.rows → x.factors ≡ b.factors → x.shapes ≡ b.shapes → Shows b x.grid → Right r x cells → BookExact r x.sizes.periods b cells
  right_exact b x cells law sound few rows factors shapes shown h p q k there grid shows =
      let at : Grid → List MeterRow → List (Option ℕ) → List (Option ℕ) → ℤ =
      λ u rs fs sh. sums whole (λ i. r.figure (part_of r.algebra r.rules (entries_of u rs fs sh i p) q) k) (length rs) in
      ap (λ c. r.figure c k) (h p q there)
      ∙ law (entries_of x.grid x.rows x.factors x.shapes) (length x.rows) p q k few (λ i l. entry_fits x i p sound l there.0 there.1)
      ∙ ap (λ u. at u x.rows x.factors x.shapes) (shows_one b x.grid grid shown shows)
      ∙ ap (λ u. at grid u x.factors x.shapes) rows
      ∙ ap (λ u. at grid b.rows u x.shapes) factors
      ∙ ap (λ u. at grid b.rows b.factors u) shapes
