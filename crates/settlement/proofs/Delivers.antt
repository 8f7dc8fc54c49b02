-- The totals follow a delivery.
use Rattle.std.proofs.Common.{◌≡◌, ℕ, ◌+◌, ◌-◌, ◌*◌, ◌≤◌, List, length, get_or, Some, Ok, Err, Option, Result, sym, ap, ◌∙◌, subst, arith}
use Rattle.market.specs.declared.refusal.Refusal.{Refusal}
use Rattle.readings.specs.declared.reading.Reading.{Reading}
use Rattle.meters.specs.declared.row.MeterRow.{MeterRow}
use Rattle.stores.specs.Grid.{Grid, with_place}
use Rattle.totals.specs.declared.entry.Entry.{Entry}
use Rattle.totals.specs.Holds.{Holds}
use Rattle.totals.specs.Moving.{Move, Moved}
use Rattle.rules.specs.Tables.{row_of, no_row}
use Rattle.engine.specs.Entries.{entry_by, entries_of}
use Rattle.settlement.specs.World.{ReportMeaning}
use Rattle.settlement.proofs.Places.{place_same, place_other}

-- amounts of which there is one for each period and place do move
pub moved_fits : {M : Type 0} (r : ReportMeaning M) (periods q p : ℕ) (old new : Entry) (cells next : List M) (x : Result (Unit {0}) Refusal) → q ≡ p →
    length cells ≡ periods * r.rules.places → Moved r.algebra r.rules periods q old new cells next x → Move r.algebra r.rules periods p old new cells next
moved_fits r periods q p old new cells next (Ok done) e fits h = subst (λ k. Move r.algebra r.rules periods k old new cells next) e h.1
moved_fits r periods q p old new cells next (Err x) e fits h = absurd (h.0 fits)

-- a move from the entry of what was stored to that of the reading keeps the totals right
pub delivered_right : {M : Type 0} (r : ReportMeaning M) (periods : ℕ) (rows : List MeterRow) (factors shapes : List (Option ℕ)) (m p : ℕ) (reading : Reading) (g h : Grid)
    (old new : Entry) (cells next : List M) → 1 ≤ m → m ≤ length rows → ((i j : ℕ) → h i j ≡ with_place g m p reading i j) →
    old ≡ entry_by factors shapes (row_of rows m) (g m p) p → new ≡ entry_by factors shapes (row_of rows m) (Some reading) p →
    Move r.algebra r.rules periods p old new cells next → Holds r.algebra r.rules (entries_of g rows factors shapes) (length rows) periods cells →
    Holds r.algebra r.rules (entries_of h rows factors shapes) (length rows) periods next
delivered_right r periods rows factors shapes m p reading g h old new cells next some few put was is move =
    let back : m - 1 + 1 ≡ m = omega arith in
    move.replaced (entries_of g rows factors shapes) (entries_of h rows factors shapes) (length rows) (m - 1) (omega arith)
    (ap (λ k. entry_by factors shapes (row_of rows m) (g k p) p) back ∙ sym was)
    (ap (λ k. entry_by factors shapes (row_of rows m) (h k p) p) back ∙ ap (λ o. entry_by factors shapes (row_of rows m) o p) (put m p ∙ place_same g m p reading) ∙ sym is)
    (λ j q _ _ d. ap (λ o. entry_by factors shapes (get_or rows j no_row) o q) (put (j + 1) q ∙ place_other g m p reading (j + 1) q (λ e. d (omega arith))))
