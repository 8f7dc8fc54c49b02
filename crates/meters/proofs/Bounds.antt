-- The classes of the table lie from 100 to 182.
use Rattle.std.proofs.Common.{◌≡◌, ℕ, ◌+◌, ◌*◌, ◌≤◌, Bool, true, false, cond, ◌&&◌, leb, List, [], ◌∷◌, Some, None, Option, refl, mul-le-mul_left, arith}
use Rattle.std.proofs.lemmas.Bool.{and_parts, leb-true}
use Rattle.qualities.specs.declared.quality.Quality.{Quality}
use Rattle.meters.specs.declared.row.Segment.{Segment}
use Rattle.meters.specs.declared.row.Quantity.{Quantity}
use Rattle.meters.specs.declared.row.Connection.{Connection}
use Rattle.meters.specs.declared.row.Connection.TheVariants.{WholeCurrent, LowVoltage, HighVoltage, ExtraHighVoltage}
use Rattle.meters.specs.declared.row.MeterRow.{MeterRow}
use Rattle.meters.specs.Lawful.{connects}
use Rattle.meters.specs.Class.{Row, table, connection_place, is_for, class_in, class_at, InTable}

-- whether every class of the rows lies in the table, at each connection
abbrev rows_fit : List Row → Bool
rows_fit [] = true
rows_fit (r ∷ rs) = (leb 100 r.3 && leb (r.3 + r.4 * 3) 182) && rows_fit rs

few : (c : Connection) → connection_place c ≤ 3
few WholeCurrent = omega arith
few LowVoltage = omega arith
few HighVoltage = omega arith
few ExtraHighVoltage = omega arith

chosen : (b : Bool) (n : ℕ) (o : Option ℕ) → (100 ≤ n) × (n ≤ 182) → InTable o → InTable (cond b (Some n) o)
chosen true n o h k = h
chosen false n o h k = k

in_rows : (rows : List Row) (s : Segment) (x : Quantity) (c : Connection) (q : Quality) → rows_fit rows ≡ true → InTable (class_in rows s x c q)
in_rows [] s x c q h = tt
in_rows (r ∷ rs) s x c q h =
    let parts = and_parts (leb 100 r.3 && leb (r.3 + r.4 * 3) 182) (rows_fit rs) h in
    let row = and_parts (leb 100 r.3) (leb (r.3 + r.4 * 3) 182) parts.0 in
    let low = leb-true 100 r.3 row.0 in
    let high = leb-true (r.3 + r.4 * 3) 182 row.1 in
    let step : r.4 * connection_place c ≤ r.4 * 3 = mul-le-mul_left r.4 (few c) in
    chosen (is_for r s x q) (r.3 + r.4 * connection_place c) (class_in rs s x c q) (omega arith, omega arith) (in_rows rs s x c q parts.1)

guarded : (b : Bool) (o : Option ℕ) → InTable o → InTable (cond b o None)
guarded true o h = h
guarded false o h = tt

pub class_in_table : (m : MeterRow) (q : Quality) → InTable (class_at m q)
unfolding class_at
class_in_table m q =
    guarded (connects m.segment m.connection) _ (in_rows table m.segment m.quantity m.connection q refl)
