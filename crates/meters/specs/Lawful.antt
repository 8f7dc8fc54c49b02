-- Lawful meter records.
use Rattle.std.specs.Prelude.{◌≡◌, ℕ, Bool, true, false, ◌&&◌, Some, None, Option, nat_le}
use Rattle.meters.specs.declared.row.Segment.{Segment}
use Rattle.meters.specs.declared.row.Segment.TheVariants.{Smart, Advanced, Unmetered}
use Rattle.meters.specs.declared.row.Connection.{Connection}
use Rattle.meters.specs.declared.row.Connection.TheVariants.{WholeCurrent, LowVoltage, HighVoltage, ExtraHighVoltage}
use Rattle.meters.specs.declared.row.MeterRow.{MeterRow}

-- whether a number is one of 1 to top
abbrev pub up_to : ℕ → ℕ → Bool
up_to top n = nat_le 1 n && nat_le n top

-- whether there is none, or it is one of 1 to top
abbrev pub up_to_or_none : ℕ → Option ℕ → Bool
up_to_or_none top None = true
up_to_or_none top (Some n) = up_to top n

abbrev pub is_whole : Connection → Bool
is_whole WholeCurrent = true
is_whole LowVoltage = false
is_whole HighVoltage = false
is_whole ExtraHighVoltage = false

-- whether a segment can have a connection: smart and unmetered ones are of whole current only
abbrev pub connects : Segment → Connection → Bool
connects Smart c = is_whole c
connects Advanced c = true
connects Unmetered c = is_whole c

-- a lawful record
pub record Lawful (m : MeterRow) : Type 0 where
  pub mpan : up_to 9999999999999 m.mpan ≡ true
  pub connection : connects m.segment m.connection ≡ true
  pub shape_class : up_to 32 m.shape_class ≡ true
  pub loss_class : up_to 40 m.loss_class ≡ true
  pub base_unit : up_to 16 m.base_unit ≡ true
  pub additional_unit : up_to_or_none 16 m.additional_unit ≡ true
  pub tariff : up_to_or_none 32 m.tariff ≡ true
  pub supplier : up_to 8 m.supplier ≡ true

-- whether a record is lawful, as a test
unfoldable pub is_lawful : MeterRow → Bool
is_lawful m =
    (up_to 9999999999999 m.mpan && connects m.segment m.connection)
    && ((up_to 32 m.shape_class && up_to 40 m.loss_class)
    && ((up_to 16 m.base_unit && up_to_or_none 16 m.additional_unit)
    && (up_to_or_none 32 m.tariff && up_to 8 m.supplier)))
