-- The class of a smart import meter's default.
use Rattle.std.proofs.Common.{◌≡◌, true, Some, sym, refl, subst}
use Rattle.qualities.specs.declared.quality.Quality.TheVariants.{E8}
use Rattle.meters.specs.declared.row.Segment.{Segment}
use Rattle.meters.specs.declared.row.Segment.TheVariants.{Smart}
use Rattle.meters.specs.declared.row.Quantity.{Quantity}
use Rattle.meters.specs.declared.row.Quantity.TheVariants.{Import}
use Rattle.meters.specs.declared.row.Connection.{Connection}
use Rattle.meters.specs.declared.row.Connection.TheVariants.{WholeCurrent, LowVoltage, HighVoltage, ExtraHighVoltage}
use Rattle.meters.specs.declared.row.MeterRow.{MeterRow}
use Rattle.meters.specs.Lawful.{connects, Lawful}
use Rattle.meters.specs.Class.{class_of, class_at}

at_connection : (c : Connection) → connects Smart c ≡ true → class_of Smart Import c E8 ≡ Some 114
at_connection WholeCurrent h = refl
at_connection LowVoltage h = cc
at_connection HighVoltage h = cc
at_connection ExtraHighVoltage h = cc

pub smart_class : (m : MeterRow) → Lawful m → m.segment ≡ Smart → m.quantity ≡ Import → class_at m E8 ≡ Some 114
unfolding class_at
smart_class m lawful s x =
    subst (λ (t : Segment). connects t m.connection ≡ true → class_of t m.quantity m.connection E8 ≡ Some 114) (sym s)
    (subst (λ (y : Quantity). connects Smart m.connection ≡ true → class_of Smart y m.connection E8 ≡ Some 114) (sym x) (at_connection m.connection))
    lawful.connection
