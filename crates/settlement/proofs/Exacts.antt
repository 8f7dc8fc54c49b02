-- The totals of a settled day lose nothing.
use Rattle.std.proofs.Common.{◌≡◌, ℕ, ◌+◌, ◌-◌, ◌^◌, ◌<◌, ◌≤◌, Bool, true, false, cond, not, ◌||◌, eqb, length, get_or, IfSome, Some, None, Option, sym, refl, ap, inl, inr, arith}
use Rattle.readings.specs.declared.reading.Reading.{Reading}
use Rattle.meters.specs.declared.row.MeterRow.{MeterRow}
use Rattle.meters.specs.declared.row.Segment.{Segment}
use Rattle.meters.specs.declared.row.Segment.TheVariants.{Smart, Advanced, Unmetered}
use Rattle.meters.specs.declared.row.Quantity.{Quantity}
use Rattle.meters.specs.declared.row.Quantity.TheVariants.{Import, Export}
use Rattle.meters.specs.declared.used.UsedReading.{UsedReading}
use Rattle.meters.specs.Lawful.{is_lawful}
use Rattle.meters.specs.Used.{is_energised, used, default_of}
use Rattle.totals.specs.Exactness.{EntryFits}
use Rattle.rules.specs.Tables.{row_of, no_row, factor_of, shape_of}
use Rattle.rules.specs.Asked.{settle}
use Rattle.rules.specs.Standing.{Standing}
use Rattle.rules.specs.Places.{Above}
use Rattle.rules.specs.Rules.{RecordFault}
use Rattle.engine.specs.Entries.{without_shape, used_by, entries_of}
use Rattle.settlement.specs.Runs.{Sound}

-- a volume of 32 bits, if there is one
abbrev Fits : Option UsedReading → Type 0
Fits o = IfSome o (λ u. u.volume < 2 ^ 32)

on_test : (b : Bool) (o : Option UsedReading) → Fits o → Fits (cond b o None)
on_test true o h = h
on_test false o h = tt

default_fits : (s : Segment) (q : Quantity) (v : ℕ) → (q ≡ Import → v < 2 ^ 32) → (default_of s q v).volume < 2 ^ 32
default_fits Smart Import v h = h refl
default_fits Advanced Import v h = h refl
default_fits Unmetered Import v h = h refl
default_fits Smart Export v h = omega arith
default_fits Advanced Export v h = omega arith
default_fits Unmetered Export v h = omega arith

without_fits : (row : MeterRow) (q : Quantity) → row.quantity ≡ q → Fits (without_shape row q)
without_fits row Import e = tt
without_fits row Export e = on_test (is_energised row.status) (Some (default_of row.segment row.quantity 0)) (default_fits row.segment row.quantity 0 (λ _. omega arith))

-- what is used fits, where the shape of an import meter is within its limit
used_fits : (row : MeterRow) (stored : Option Reading) (shape : Option ℕ) → (row.quantity ≡ Import → Above 1000000000 shape → ⊥) → Fits (used_by row stored shape)
used_fits row (Some r) shape h =
    on_test (is_energised row.status || not (eqb r.volume 0)) (Some (used r.volume r.quality)) (let few = r.bounded in omega arith)
used_fits row None (Some v) h =
    on_test (is_energised row.status) (Some (default_of row.segment row.quantity v))
    (default_fits row.segment row.quantity v (λ e. let low : 1000000000 < v → ⊥ = h e in omega arith))
used_fits row None None h = without_fits row row.quantity refl

-- so does a factor
factor_fits : (o : Option ℕ) → (Above 9999 o → ⊥) → IfSome o (λ f. f < 2 ^ 16)
factor_fits None h = tt
factor_fits (Some f) h = omega arith

-- every entry of a day on which nothing is missing fits
pub entry_fits : (x : Standing) (i p : ℕ) → Sound x → i < length x.rows → 1 ≤ p → p ≤ x.sizes.periods → EntryFits (entries_of x.grid x.rows x.factors x.shapes i p)
entry_fits x i p sound within low high =
    let back : i + 1 - 1 ≡ i = omega arith in
    let row : MeterRow = get_or x.rows i no_row in
    let is : row_of x.rows (i + 1) ≡ row = ap (λ k. get_or x.rows k no_row) back in
    let none : (n : ℕ) → RecordFault x settle (i + 1) row n → ⊥ =
    λ n fault. sound n (inl (i + 1, (row, (((omega arith, omega arith), sym is), fault)))) in (
      on_test (is_lawful row) (used_by row (x.grid (i + 1) p) (shape_of x.shapes row.shape_class p))
          (used_fits row (x.grid (i + 1) p) (shape_of x.shapes row.shape_class p) (λ e above. none 6 (inr (inr (p, ((low, high), inl (refl, inr (e, above)))))))),
      factor_fits (factor_of x.factors row.loss_class p) (λ above. none 6 (inr (inr (p, ((low, high), inl (refl, inl above)))))),
    )
