-- The BM Unit report: by BM Unit and class, volume, loss and count.
use Rattle.std.specs.Prelude.{◌≡◌, ℕ, ◌%◌, ◌^◌, ℤ, pos, ◌-ℤ◌, ◌*ℤ◌}
use Rattle.std.proofs.Common.{lit<}
use Rattle.std.specs.Option.{unwrap_or, option_map}
use Rattle.std.specs.Int.{int_wrap, w64}
use Rattle.meters.specs.declared.row.MeterRow.{MeterRow}
use Rattle.meters.specs.declared.used.UsedReading.{UsedReading}
use Rattle.meters.specs.Class.{class_at}
use Rattle.amounts.specs.declared.bm_unit_amount.BmUnitAmount.{BmUnitAmount}
use Rattle.amounts.specs.Words.{mod64_fits, wrapped_mag}
use Rattle.totals.specs.Rules.{Rules}
use Rattle.reports.specs.Places.{unit_place}

-- the BM Unit of a meter: the additional one, if there is one
abbrev pub unit_of : MeterRow → ℕ
unit_of m = unwrap_or m.additional_unit m.base_unit

-- the loss of a volume in mWh, by a factor in thousandths: what the factor adds to 1
abbrev pub loss_of : ℕ → ℕ → ℤ
loss_of factor volume = (pos factor -ℤ pos 1000) *ℤ pos volume

-- the amount of a used reading: its volume, its loss, and one meter; each figure wraps at 64 bits
abbrev pub unit_amount : UsedReading → ℕ → BmUnitAmount
unit_amount u factor = record {
  volume = u.volume % 2 ^ 64;
  loss = int_wrap w64 (loss_of factor u.volume);
  count = 1;
  volume_fits = mod64_fits _;
  loss_fits = wrapped_mag _;
  count_fits = lit< tt;
}

abbrev pub unit_rules : Rules BmUnitAmount
unit_rules = record {
  places = 1328;
  place = λ m u. option_map (unit_place (unit_of m)) (class_at m u.quality);
  amount = λ m u factor. unit_amount u factor;
}

-- of a volume of 32 bits and a factor of 16 nothing is lost: the figures are the volume, its loss and 1
pub record UnitExact (u : UsedReading) (factor : ℕ) (r : BmUnitAmount) : Type 0 where
  pub volume : r.volume ≡ u.volume
  pub loss : r.loss ≡ loss_of factor u.volume
  pub count : r.count ≡ 1
