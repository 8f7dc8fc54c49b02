-- What a report is, as values.
use Rattle.std.specs.Prelude.{ℕ, ◌^◌, ◌<◌, ℤ, Option}
use Rattle.meters.specs.declared.row.MeterRow.{MeterRow}
use Rattle.meters.specs.declared.used.UsedReading.{UsedReading}
use Rattle.amounts.specs.Sums.{Within}

-- how many places a report has; which of them, if any, it names for a meter and its used reading; and the amount, which also depends on
-- the meter's factor. All three depend on nothing else
pub record Rules (M : Type 0) : Type 0 where
  pub places : ℕ
  pub place : MeterRow → UsedReading → Option ℕ
  pub amount : MeterRow → UsedReading → ℕ → M

-- the figures of every amount are within 2 ^ 50, so that 4,096 of them add up exactly
abbrev pub Small : {M : Type 0} → Rules M → (M → ℕ → ℤ) → Type 0
Small rules figure =
    (m : MeterRow) (u : UsedReading) (f k : ℕ) → u.volume < 2 ^ 32 → f < 2 ^ 16 → Within (2 ^ 50) (figure (rules.amount m u f) k)
