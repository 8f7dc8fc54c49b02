-- The figures of the reports' amounts are small, so that nothing wraps.
use Rattle.std.proofs.Common.{◌≡◌, ℕ, zero, suc, ◌*◌, ◌^◌, ◌<◌, ◌≤◌, ℤ, pos, negsuc, ◌-ℤ◌, ◌*ℤ◌, sym, subst, mul-le-mul, arith, w64, SFits}
use lib.Signed.{mag}
use Rattle.std.specs.Int.{int_wrap}
use Rattle.std.proofs.lemmas.Int.{ints, int_wrap_fits}
use Rattle.meters.specs.declared.used.UsedReading.{UsedReading}
use Rattle.amounts.specs.BmUnit.{units_figure}
use Rattle.amounts.specs.Sums.{Within}
use Rattle.reports.specs.BmUnit.{loss_of, unit_amount}

-- a number within 2 ^ 16 times one below 2 ^ 32
product_small : (z : ℤ) (v : ℕ) → Within 65536 z → v < 2 ^ 32 → Within (2 ^ 48) (z *ℤ pos v)
product_small (pos a) v h k =
    let left : a ≤ 65536 = omega (arith, ints) in
    let right : v ≤ 4294967296 = omega arith in
    let most : a * v ≤ 65536 * 4294967296 = mul-le-mul left right in
    (omega (arith, ints), omega (arith, ints))
product_small (negsuc a) v h k =
    let left : suc a ≤ 65536 = omega (arith, ints) in
    let right : v ≤ 4294967296 = omega arith in
    let most : suc a * v ≤ 65536 * 4294967296 = mul-le-mul left right in
    (omega (arith, ints), omega (arith, ints))

-- a loss is within 2 ^ 48
pub loss_small : (f v : ℕ) → v < 2 ^ 32 → f < 2 ^ 16 → Within (2 ^ 48) (loss_of f v)
loss_small f v h k = product_small (pos f -ℤ pos 1000) v (omega (arith, ints), omega (arith, ints)) h

mag_small : (z : ℤ) → Within (2 ^ 48) z → mag z < 2 ^ 63
mag_small (pos a) h = omega (arith, ints)
mag_small (negsuc a) h = omega (arith, ints)

-- and so it fits 64 bits
pub loss_fits : (f v : ℕ) → v < 2 ^ 32 → f < 2 ^ 16 → SFits w64 (loss_of f v)
loss_fits f v h k = record { sfits = mag_small (loss_of f v) (loss_small f v h k) }

-- and does not wrap
pub loss_exact : (f v : ℕ) → v < 2 ^ 32 → f < 2 ^ 16 → int_wrap w64 (loss_of f v) ≡ loss_of f v
loss_exact f v h k = int_wrap_fits w64 (loss_of f v) (loss_fits f v h k)

pub units_small : (u : UsedReading) (f k : ℕ) → u.volume < 2 ^ 32 → f < 2 ^ 16 → Within (2 ^ 50) (units_figure (unit_amount u f) k)
units_small u f zero h l = (omega (arith, ints), omega (arith, ints))
units_small u f (suc zero) h l =
    let small = loss_small f u.volume h l in
    let wide : Within (2 ^ 50) (loss_of f u.volume) = (omega (arith, ints), omega (arith, ints)) in
    subst (λ z. Within (2 ^ 50) z) (sym (loss_exact f u.volume h l)) wide
units_small u f (suc (suc zero)) h l = (omega (arith, ints), omega (arith, ints))
units_small u f (suc (suc (suc k))) h l = (omega (arith, ints), omega (arith, ints))
