-- Amounts of the BM Unit report: sums, their laws and their figures, field by field.
use Rattle.std.specs.Prelude.{◌≡◌, ℕ, zero, suc, ◌^◌, ℤ, pos, ◌+ℤ◌, refl}
use Rattle.std.proofs.Common.{lit<}
use denote.Struct.Record.{values_one}
use Rattle.amounts.specs.declared.bm_unit_amount.BmUnitAmount.{BmUnitAmount}
use Rattle.amounts.specs.contracts.bm_unit_amount.BmUnitAmount.{struct, the_propositions}
use Rattle.amounts.specs.Laws.{Algebra, Laws, laws_of}
use Rattle.amounts.specs.Sums.{Within, Exact}
use Rattle.amounts.specs.Words.{add64, sub64, add_i64, sub_i64, mod64_fits, wrapped_mag, add64_assoc, add64_comm, add64_zero, sub64_undoes, add_i64_assoc, add_i64_comm, add_i64_zero, sub_i64_undoes, add64_exact, add_i64_exact}

abbrev pub no_units : BmUnitAmount
no_units = record { volume = 0; loss = pos 0; count = 0; volume_fits = lit< tt; loss_fits = lit< tt; count_fits = lit< tt }

abbrev pub more_units : BmUnitAmount → BmUnitAmount → BmUnitAmount
more_units x y = record {
  volume = add64 x.volume y.volume;
  loss = add_i64 x.loss y.loss;
  count = add64 x.count y.count;
  volume_fits = mod64_fits _;
  loss_fits = wrapped_mag _;
  count_fits = mod64_fits _;
}

abbrev pub fewer_units : BmUnitAmount → BmUnitAmount → BmUnitAmount
fewer_units x y = record {
  volume = sub64 x.volume y.volume;
  loss = sub_i64 x.loss y.loss;
  count = sub64 x.count y.count;
  volume_fits = mod64_fits _;
  loss_fits = wrapped_mag _;
  count_fits = mod64_fits _;
}

-- amounts with the same figures are the same
pub same_units : (x y : BmUnitAmount) → x.volume ≡ y.volume → x.loss ≡ y.loss → x.count ≡ y.count → x ≡ y
same_units x y a b c = values_one struct the_propositions x y (λ i. (a i, (b i, (c i, tt))))

abbrev pub units : Algebra BmUnitAmount
units = record { zero = no_units; plus = more_units; minus = fewer_units }

pub units_laws : Laws units
units_laws = laws_of units
    (λ x y z. same_units (more_units (more_units x y) z) (more_units x (more_units y z))
    (add64_assoc x.volume y.volume z.volume) (add_i64_assoc x.loss y.loss z.loss) (add64_assoc x.count y.count z.count))
    (λ x y. same_units (more_units x y) (more_units y x)
    (add64_comm x.volume y.volume) (add_i64_comm x.loss y.loss) (add64_comm x.count y.count))
    (λ x. same_units (more_units x no_units) x
    (add64_zero _ x.volume_fits) (add_i64_zero _ x.loss_fits) (add64_zero _ x.count_fits))
    (λ x y. same_units (fewer_units (more_units x y) y) x
    (sub64_undoes _ _ x.volume_fits y.volume_fits) (sub_i64_undoes x.loss y.loss x.loss_fits) (sub64_undoes _ _ x.count_fits y.count_fits))

-- its figures: volume, loss and count
abbrev pub units_figure : BmUnitAmount → ℕ → ℤ
units_figure x zero = pos x.volume
units_figure x (suc zero) = x.loss
units_figure x (suc (suc zero)) = pos x.count
units_figure x (suc (suc (suc k))) = pos 0

pub units_exact : Exact units units_figure
units_exact = record { nothing = nothing; adds = adds }
  where
    nothing : (k : ℕ) → units_figure no_units k ≡ pos 0
    nothing zero = refl
    nothing (suc zero) = refl
    nothing (suc (suc zero)) = refl
    nothing (suc (suc (suc k))) = refl

    adds : (x y : BmUnitAmount) (k : ℕ) → Within (2 ^ 62) (units_figure x k +ℤ units_figure y k) → units_figure (more_units x y) k ≡ units_figure x k +ℤ units_figure y k
    adds x y zero h = add64_exact x.volume y.volume h
    adds x y (suc zero) h = add_i64_exact x.loss y.loss h
    adds x y (suc (suc zero)) h = add64_exact x.count y.count h
    adds x y (suc (suc (suc k))) h = refl
