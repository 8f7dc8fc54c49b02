-- Nothing counts where there is no meter.
use Rattle.std.proofs.Common.{◌≡◌, ℕ, ◌+◌, ◌≤◌, List, length, None, Option, sym, refl, ap, ◌∙◌}
use Rattle.std.proofs.lemmas.List.{get_or_past}
use Rattle.readings.specs.declared.reading.Reading.{Reading}
use Rattle.meters.specs.declared.row.MeterRow.{MeterRow}
use Rattle.meters.specs.Lawful.{is_lawful}
use Rattle.stores.specs.Grid.{Grid}
use Rattle.rules.specs.Tables.{no_row}
use Rattle.engine.specs.Entries.{entry_by, entries_of}

-- of the record of no meter nothing is used, whatever is stored
stored_or_not : (factors shapes : List (Option ℕ)) (a b : Option Reading) (p : ℕ) → entry_by factors shapes no_row a p ≡ entry_by factors shapes no_row b p
unfolding is_lawful
stored_or_not factors shapes a b p = refl

-- a meter past the last one has the entry of no meter
pub nobody : (grid : Grid) (rows : List MeterRow) (factors shapes : List (Option ℕ)) (i p : ℕ) → length rows ≤ i →
    entry_by factors shapes no_row None p ≡ entries_of grid rows factors shapes i p
nobody grid rows factors shapes i p past =
    stored_or_not factors shapes None (grid (i + 1) p) p ∙ ap (λ row. entry_by factors shapes row (grid (i + 1) p) p) (sym (get_or_past rows i no_row past))
