-- Consumption component classes.
use Rattle.std.specs.Prelude.{ℕ, ◌+◌, ◌*◌, ◌≤◌, Bool, false, cond, ◌&&◌, ◌||◌, List, [], ◌∷◌, Some, None, Option, ◌==◌, nat_le}
use Rattle.qualities.specs.declared.quality.Quality.{Quality}
use Rattle.qualities.specs.declared.quality.Quality.TheVariants.{A, A1, A2, A3, AAE1, AAE2, AAE3, E, E1, E2, E3, E4, E5, E6, E7, E8, EA1, EA2, EA3, EA4, EA5, EA6, EA7, EA8, EA9, EA10, EA11, EA12, EAE1, EAE2, EAE3, ZE, ZE1, ZE2, ZE3}
use Rattle.qualities.specs.Quality.{number_of}
use Rattle.meters.specs.declared.row.Segment.{Segment}
use Rattle.meters.specs.declared.row.Segment.TheVariants.{Smart, Advanced, Unmetered}
use Rattle.meters.specs.declared.row.Quantity.{Quantity}
use Rattle.meters.specs.declared.row.Quantity.TheVariants.{Import, Export}
use Rattle.meters.specs.declared.row.Connection.{Connection}
use Rattle.meters.specs.declared.row.Connection.TheVariants.{WholeCurrent, LowVoltage, HighVoltage, ExtraHighVoltage}
use Rattle.meters.specs.declared.row.MeterRow.{MeterRow}
use Rattle.meters.specs.Lawful.{connects}

-- a row of the table: segment, quantity, the qualities, the class at whole current, and what each further
-- connection adds
abbrev pub Row : Type 0
Row = Segment × Quantity × List Quality × ℕ × ℕ

abbrev pub table : List Row
table =
    (Unmetered, Import, A ∷ [], 100, 0) ∷
    (Unmetered, Export, A ∷ [], 102, 0) ∷
    (Unmetered, Import, E ∷ ZE ∷ [], 104, 0) ∷
    (Unmetered, Export, E ∷ ZE ∷ [], 106, 0) ∷
    (Smart, Import, A ∷ [], 108, 0) ∷
    (Smart, Export, A ∷ [], 110, 0) ∷
    (Smart, Import, E1 ∷ E2 ∷ E3 ∷ E6 ∷ [], 112, 0) ∷
    (Smart, Import, E4 ∷ E5 ∷ E7 ∷ [], 113, 0) ∷
    (Smart, Import, E8 ∷ ZE2 ∷ ZE3 ∷ [], 114, 0) ∷
    (Smart, Export, E1 ∷ E2 ∷ E3 ∷ E6 ∷ ZE1 ∷ ZE2 ∷ ZE3 ∷ [], 118, 0) ∷
    (Advanced, Import, A ∷ A1 ∷ A2 ∷ A3 ∷ [], 120, 4) ∷
    (Advanced, Export, A ∷ A1 ∷ A2 ∷ A3 ∷ [], 122, 4) ∷
    (Advanced, Import, EA1 ∷ EA2 ∷ EA3 ∷ EA4 ∷ EA5 ∷ [], 136, 12) ∷
    (Advanced, Import, EA7 ∷ EA8 ∷ EA9 ∷ [], 137, 12) ∷
    (Advanced, Import, EA6 ∷ EA10 ∷ EA11 ∷ EA12 ∷ [], 138, 12) ∷
    (Advanced, Export, AAE1 ∷ AAE2 ∷ [], 142, 12) ∷
    (Advanced, Export, AAE3 ∷ [], 143, 12) ∷
    (Advanced, Export, EAE1 ∷ EAE2 ∷ EAE3 ∷ [], 144, 12) ∷ []

-- the segments, quantities and connections in an order, to tell them apart
abbrev pub segment_place : Segment → ℕ
segment_place Smart = 0
segment_place Advanced = 1
segment_place Unmetered = 2

abbrev pub quantity_place : Quantity → ℕ
quantity_place Import = 0
quantity_place Export = 1

abbrev pub connection_place : Connection → ℕ
connection_place WholeCurrent = 0
connection_place LowVoltage = 1
connection_place HighVoltage = 2
connection_place ExtraHighVoltage = 3

-- whether a quality is listed
abbrev pub lists : List Quality → Quality → Bool
lists [] q = false
lists (p ∷ ps) q = number_of p == number_of q || lists ps q

-- whether a row is for this segment, quantity and quality
abbrev pub is_for : Row → Segment → Quantity → Quality → Bool
is_for r s x q = segment_place r.0 == segment_place s && (quantity_place r.1 == quantity_place x && lists r.2 q)

-- the class of the row that is for them, or none
abbrev pub class_in : List Row → Segment → Quantity → Connection → Quality → Option ℕ
class_in [] s x c q = None
class_in (r ∷ rs) s x c q = cond (is_for r s x q) (Some (r.3 + r.4 * connection_place c)) (class_in rs s x c q)

-- the class of a quality, or none; a connection that the segment cannot have has none
abbrev pub class_of : Segment → Quantity → Connection → Quality → Option ℕ
class_of s x c q = cond (connects s c) (class_in table s x c q) None

-- the class of a quality at a meter
unfoldable pub class_at : MeterRow → Quality → Option ℕ
class_at m q = class_of m.segment m.quantity m.connection q

-- the classes of the table lie from 100 to 182
abbrev pub InTable : Option ℕ → Type 0
InTable None = Unit {0}
InTable (Some class) = (100 ≤ class) × (class ≤ 182)

-- whether a number is one of first to last
abbrev pub within : ℕ → ℕ → ℕ → Bool
within first last n = nat_le first n && nat_le n last

-- the class under which the losses of a consumption class are reported: one more for 100 to 111 and 118 to 135, three more for
-- 112 to 114 and from 136 on, where the published table has it: it ends at 182
abbrev pub losses_of : ℕ → Option ℕ
losses_of n =
    cond (within 100 111 n || within 118 135 n) (Some (n + 1)) (cond (within 112 114 n || within 136 179 n) (Some (n + 3)) None)
