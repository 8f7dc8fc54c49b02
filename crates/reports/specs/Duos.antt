-- The DUoS report: by tariff and supplier, volume, counts, and actual and estimated volume.
use Rattle.std.specs.Prelude.{◌≡◌, ℕ, ◌%◌, ◌^◌, Bool, cond, not, ◌&&◌, [], ◌∷◌}
use Rattle.std.specs.Option.{option_map}
use Rattle.qualities.specs.declared.quality.Quality.{Quality}
use Rattle.qualities.specs.declared.quality.Quality.TheVariants.{A, A1, A2, A3, E6}
use Rattle.meters.specs.declared.row.MeterRow.{MeterRow}
use Rattle.meters.specs.declared.used.UsedReading.{UsedReading}
use Rattle.meters.specs.Class.{lists}
use Rattle.meters.specs.Used.{is_energised}
use Rattle.amounts.specs.declared.duos_amount.DuosAmount.{DuosAmount}
use Rattle.amounts.specs.Words.{mod64_fits}
use Rattle.totals.specs.Rules.{Rules}
use Rattle.reports.specs.Places.{duos_place}

-- the qualities of actual volumes
abbrev pub is_actual : Quality → Bool
is_actual q = lists (A ∷ A1 ∷ A2 ∷ A3 ∷ []) q

-- the qualities by which a de-energised meter is counted
abbrev pub is_counted : Quality → Bool
is_counted q = lists (A ∷ A1 ∷ A2 ∷ A3 ∷ E6 ∷ []) q

-- a number where a test holds, and else 0
abbrev pub when : Bool → ℕ → ℕ
when b n = cond b n 0

-- the amount of a used reading: its volume; one energised meter; one de-energised meter, of some qualities only; the volume where it is
-- actual, and where it is estimated, which all other qualities are; each figure wraps at 64 bits
abbrev pub duos_amount : MeterRow → UsedReading → DuosAmount
duos_amount m u = record {
  volume = u.volume % 2 ^ 64;
  energised = when (is_energised m.status) 1 % 2 ^ 64;
  deenergised = when (not (is_energised m.status) && is_counted u.quality) 1 % 2 ^ 64;
  actual = when (is_actual u.quality) u.volume % 2 ^ 64;
  estimated = when (not (is_actual u.quality)) u.volume % 2 ^ 64;
  volume_fits = mod64_fits _;
  energised_fits = mod64_fits _;
  deenergised_fits = mod64_fits _;
  actual_fits = mod64_fits _;
  estimated_fits = mod64_fits _;
}

-- a meter without a tariff has no place
abbrev pub duos_rules : Rules DuosAmount
duos_rules = record {
  places = 256;
  place = λ m u. option_map (λ tariff. duos_place tariff m.supplier) m.tariff;
  amount = λ m u factor. duos_amount m u;
}

-- of a volume of 32 bits nothing is lost
pub record DuosExact (m : MeterRow) (u : UsedReading) (r : DuosAmount) : Type 0 where
  pub volume : r.volume ≡ u.volume
  pub energised : r.energised ≡ when (is_energised m.status) 1
  pub deenergised : r.deenergised ≡ when (not (is_energised m.status) && is_counted u.quality) 1
  pub actual : r.actual ≡ when (is_actual u.quality) u.volume
  pub estimated : r.estimated ≡ when (not (is_actual u.quality)) u.volume
