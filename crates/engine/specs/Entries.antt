-- What counts for each meter in each period.
use Rattle.std.specs.Prelude.{ℕ, ◌+◌, cond, List, Some, None, Option, slice_index_or}
use Rattle.std.specs.Option.{unwrap_or}
use Rattle.readings.specs.declared.reading.Reading.{Reading}
use Rattle.meters.specs.declared.row.MeterRow.{MeterRow}
use Rattle.meters.specs.declared.row.Quantity.{Quantity}
use Rattle.meters.specs.declared.row.Quantity.TheVariants.{Import, Export}
use Rattle.meters.specs.declared.used.UsedReading.{UsedReading}
use Rattle.meters.specs.Lawful.{is_lawful}
use Rattle.meters.specs.Used.{used_of}
use Rattle.stores.specs.Grid.{Grid}
use Rattle.rules.specs.Tables.{factor_of, shape_of, no_row}
use Rattle.totals.specs.declared.entry.Entry.{Entry}

-- the default of a meter whose shape is blank: on export it needs none, on import there is none
abbrev pub without_shape : MeterRow → Quantity → Option UsedReading
without_shape row Import = None
without_shape row Export = used_of row None 0

-- the used reading by what is stored and by a shape that may be blank
abbrev pub used_by : MeterRow → Option Reading → Option ℕ → Option UsedReading
used_by row (Some r) shape = used_of row (Some r) (unwrap_or shape 0)
used_by row None (Some v) = used_of row None v
used_by row None None = without_shape row row.quantity

-- what counts for a record and what is stored for its meter, by its shape and its factor; nothing is used of an unlawful record
abbrev pub entry_with : MeterRow → Option Reading → Option ℕ → Option ℕ → Entry
entry_with row stored shape factor = record {
  row = row;
  used = cond (is_lawful row) (used_by row stored shape) None;
  factor = factor;
}

-- the same in period p, by the shape of its shape class and the factor of its loss class
abbrev pub entry_by : List (Option ℕ) → List (Option ℕ) → MeterRow → Option Reading → ℕ → Entry
entry_by factors shapes row stored p = entry_with row stored (shape_of shapes row.shape_class p) (factor_of factors row.loss_class p)

-- what counts for meter i + 1 in period p
abbrev pub entries_of : Grid → List MeterRow → List (Option ℕ) → List (Option ℕ) → ℕ → ℕ → Entry
entries_of grid rows factors shapes i p = entry_by factors shapes (slice_index_or rows i no_row) (grid (i + 1) p) p
