-- What every kind of amount keeps.
use Rattle.std.specs.Prelude.{◌≡◌}
use Rattle.std.proofs.Common.{sym, ap, ◌∙◌}

-- a kind of amount: a zero, an addition and a taking away
pub record Algebra (M : Type 0) : Type 0 where
  pub zero : M
  pub plus : M → M → M
  pub minus : M → M → M

-- a sum has no order, zero changes nothing, and what was added can be taken away again
pub record Laws {M : Type 0} (a : Algebra M) : Type 0 where
  pub assoc : (x y z : M) → a.plus (a.plus x y) z ≡ a.plus x (a.plus y z)
  pub comm : (x y : M) → a.plus x y ≡ a.plus y x
  pub neutral : (x : M) → a.plus x a.zero ≡ x
  pub undoes : (x y : M) → a.minus (a.plus x y) y ≡ x
  -- taking nothing away changes nothing: it follows from the two before
  pub none_less : (x : M) → a.minus x a.zero ≡ x

-- the laws, from the first four
pub laws_of : {M : Type 0} (a : Algebra M) → ((x y z : M) → a.plus (a.plus x y) z ≡ a.plus x (a.plus y z)) →
    ((x y : M) → a.plus x y ≡ a.plus y x) → ((x : M) → a.plus x a.zero ≡ x) → ((x y : M) → a.minus (a.plus x y) y ≡ x) → Laws a
laws_of a assoc comm neutral undoes = record {
  assoc = assoc;
  comm = comm;
  neutral = neutral;
  undoes = undoes;
  none_less = λ x. ap (λ y. a.minus y a.zero) (sym (neutral x)) ∙ undoes x a.zero;
}
