-- What is made of a record.
use Rattle.std.specs.Prelude.{◌≡◌, Ok, Err, Result}
use Rattle.market.specs.declared.refusal.Refusal.{Refusal}
use Rattle.market.specs.Refusal.{number_of}
use Rattle.meters.specs.declared.row.MeterRow.{MeterRow}
use Rattle.meters.specs.declared.meter.Meter.{Meter}
use Rattle.meters.specs.Lawful.{Lawful}

-- the meter of a lawful record, or 4
abbrev pub Made : MeterRow → Result Meter Refusal → Type 0
Made row (Ok meter) = (meter.row ≡ row) × Lawful row
Made row (Err e) = (Lawful row → ⊥) × (number_of e ≡ 4)
