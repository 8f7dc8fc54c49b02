-- Amounts of the DUoS report: sums, their laws and their figures, field by field.
use Rattle.std.specs.Prelude.{◌≡◌, ℕ, zero, suc, ◌^◌, ℤ, pos, ◌+ℤ◌, refl}
use Rattle.std.proofs.Common.{lit<}
use denote.Struct.Record.{values_one}
use Rattle.amounts.specs.declared.duos_amount.DuosAmount.{DuosAmount}
use Rattle.amounts.specs.contracts.duos_amount.DuosAmount.{struct, the_propositions}
use Rattle.amounts.specs.Laws.{Algebra, Laws, laws_of}
use Rattle.amounts.specs.Sums.{Within, Exact}
use Rattle.amounts.specs.Words.{add64, sub64, mod64_fits, add64_assoc, add64_comm, add64_zero, sub64_undoes, add64_exact}

abbrev pub no_duos : DuosAmount
no_duos = record {
  volume = 0;
  energised = 0;
  deenergised = 0;
  actual = 0;
  estimated = 0;
  volume_fits = lit< tt;
  energised_fits = lit< tt;
  deenergised_fits = lit< tt;
  actual_fits = lit< tt;
  estimated_fits = lit< tt;
}

-- an amount whose figures are each made of the two figures of that kind
pub record DuosZipped (makes : ℕ → ℕ → ℕ → Type 0) (x y r : DuosAmount) : Type 0 where
  pub volume : makes x.volume y.volume r.volume
  pub energised : makes x.energised y.energised r.energised
  pub deenergised : makes x.deenergised y.deenergised r.deenergised
  pub actual : makes x.actual y.actual r.actual
  pub estimated : makes x.estimated y.estimated r.estimated

abbrev pub more_duos : DuosAmount → DuosAmount → DuosAmount
more_duos x y = record {
  volume = add64 x.volume y.volume;
  energised = add64 x.energised y.energised;
  deenergised = add64 x.deenergised y.deenergised;
  actual = add64 x.actual y.actual;
  estimated = add64 x.estimated y.estimated;
  volume_fits = mod64_fits _;
  energised_fits = mod64_fits _;
  deenergised_fits = mod64_fits _;
  actual_fits = mod64_fits _;
  estimated_fits = mod64_fits _;
}

abbrev pub fewer_duos : DuosAmount → DuosAmount → DuosAmount
fewer_duos x y = record {
  volume = sub64 x.volume y.volume;
  energised = sub64 x.energised y.energised;
  deenergised = sub64 x.deenergised y.deenergised;
  actual = sub64 x.actual y.actual;
  estimated = sub64 x.estimated y.estimated;
  volume_fits = mod64_fits _;
  energised_fits = mod64_fits _;
  deenergised_fits = mod64_fits _;
  actual_fits = mod64_fits _;
  estimated_fits = mod64_fits _;
}

-- amounts with the same figures are the same
pub same_duos : (x y : DuosAmount) → x.volume ≡ y.volume → x.energised ≡ y.energised → x.deenergised ≡ y.deenergised → x.actual ≡ y.actual → x.estimated ≡ y.estimated → x ≡ y
same_duos x y a b c d e = values_one struct the_propositions x y (λ i. (a i, (b i, (c i, (d i, (e i, tt))))))

abbrev pub duos : Algebra DuosAmount
duos = record { zero = no_duos; plus = more_duos; minus = fewer_duos }

pub duos_laws : Laws duos
duos_laws = laws_of duos
    (λ x y z. same_duos (more_duos (more_duos x y) z) (more_duos x (more_duos y z))
    (add64_assoc x.volume y.volume z.volume)
    (add64_assoc x.energised y.energised z.energised)
    (add64_assoc x.deenergised y.deenergised z.deenergised)
    (add64_assoc x.actual y.actual z.actual)
    (add64_assoc x.estimated y.estimated z.estimated))
    (λ x y. same_duos (more_duos x y) (more_duos y x)
    (add64_comm x.volume y.volume)
    (add64_comm x.energised y.energised)
    (add64_comm x.deenergised y.deenergised)
    (add64_comm x.actual y.actual)
    (add64_comm x.estimated y.estimated))
    (λ x. same_duos (more_duos x no_duos) x
    (add64_zero _ x.volume_fits)
    (add64_zero _ x.energised_fits)
    (add64_zero _ x.deenergised_fits)
    (add64_zero _ x.actual_fits)
    (add64_zero _ x.estimated_fits))
    (λ x y. same_duos (fewer_duos (more_duos x y) y) x
    (sub64_undoes _ _ x.volume_fits y.volume_fits)
    (sub64_undoes _ _ x.energised_fits y.energised_fits)
    (sub64_undoes _ _ x.deenergised_fits y.deenergised_fits)
    (sub64_undoes _ _ x.actual_fits y.actual_fits)
    (sub64_undoes _ _ x.estimated_fits y.estimated_fits))

-- its figures: volume, energised and de-energised count, actual and estimated volume
abbrev pub duos_figure : DuosAmount → ℕ → ℤ
duos_figure x zero = pos x.volume
duos_figure x (suc zero) = pos x.energised
duos_figure x (suc (suc zero)) = pos x.deenergised
duos_figure x (suc (suc (suc zero))) = pos x.actual
duos_figure x (suc (suc (suc (suc zero)))) = pos x.estimated
duos_figure x (suc (suc (suc (suc (suc k))))) = pos 0

pub duos_exact : Exact duos duos_figure
duos_exact = record { nothing = nothing; adds = adds }
  where
    nothing : (k : ℕ) → duos_figure no_duos k ≡ pos 0
    nothing zero = refl
    nothing (suc zero) = refl
    nothing (suc (suc zero)) = refl
    nothing (suc (suc (suc zero))) = refl
    nothing (suc (suc (suc (suc zero)))) = refl
    nothing (suc (suc (suc (suc (suc k))))) = refl

    adds : (x y : DuosAmount) (k : ℕ) → Within (2 ^ 62) (duos_figure x k +ℤ duos_figure y k) → duos_figure (more_duos x y) k ≡ duos_figure x k +ℤ duos_figure y k
    adds x y zero h = add64_exact x.volume y.volume h
    adds x y (suc zero) h = add64_exact x.energised y.energised h
    adds x y (suc (suc zero)) h = add64_exact x.deenergised y.deenergised h
    adds x y (suc (suc (suc zero))) h = add64_exact x.actual y.actual h
    adds x y (suc (suc (suc (suc zero)))) h = add64_exact x.estimated y.estimated h
    adds x y (suc (suc (suc (suc (suc k))))) h = refl
