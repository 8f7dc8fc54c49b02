-- Values of the reports that are known from published documents, worked out there or by hand.
use Rattle.std.specs.Prelude.{◌≡◌, ℕ, pos, neg_ℤ, Some}
use Rattle.qualities.specs.declared.quality.Quality.TheVariants.{A, E2, E8}
use Rattle.meters.specs.declared.row.Status.TheVariants.{Deenergised}
use Rattle.meters.specs.declared.row.MeterRow.{MeterRow}
use Rattle.meters.specs.Used.{used}
use Rattle.reports.specs.Places.{duos_place}
use Rattle.reports.specs.BmUnit.{unit_amount}
use Rattle.reports.specs.Duos.{duos_rules, duos_amount}

-- an estimated volume at a de-energised meter that has a tariff has a place in the DUoS report, and is estimated there and not counted
abbrev pub EstimateOnly : ℕ → Type 0
EstimateOnly volume =
    (m : MeterRow) (tariff : ℕ) → m.status ≡ Deenergised → m.tariff ≡ Some tariff →
    (duos_rules.place m (used volume E2) ≡ Some (duos_place tariff m.supplier))
    × ((duos_amount m (used volume E2)).estimated ≡ volume)
    × ((duos_amount m (used volume E2)).energised ≡ 0)
    × ((duos_amount m (used volume E2)).deenergised ≡ 0)

pub record ReportedValues : Type 0 where
  -- factor 1,085 and 250 Wh: 21,250 mWh
  pub loss : (unit_amount (used 250 E8) 1085).loss ≡ pos 21250
  -- factor 950 and 30 Wh: -1,500 mWh
  pub gain : (unit_amount (used 30 A) 950).loss ≡ neg_ℤ (pos 1500)
  -- de-energised, with a tariff, E2, 700 Wh: estimated 700, in neither count
  pub estimated : EstimateOnly 700
