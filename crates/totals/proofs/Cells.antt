-- A table in a list: the total of period p and place q lies at (p - 1) * places + q.
use Rattle.std.proofs.Common.{◌≡◌, ℕ, ◌+◌, ◌-◌, ◌*◌, ◌/◌, ◌%◌, ◌^◌, ◌<◌, ◌≤◌, Bool, true, false, cond, ◌&&◌, eqb, List, length, get_or, set, sym, refl, ap, ◌∙◌, mul-le-mul_right, add-mul, mul-le-mul, arith}
use Rattle.std.proofs.lemmas.Nat.{div-mul-add, mod-mul-add}
use Rattle.std.proofs.lemmas.List.{get_or-set_same, get_or-set_other}
use Rattle.std.proofs.lemmas.Bool.{eqb-true, eqb-false}
use Rattle.totals.specs.Table.{HasTotal, cell_of}

-- a total of the table lies within it
pub cell_below : (periods places p q : ℕ) → HasTotal periods places p q → cell_of places p q < periods * places
cell_below periods places p q h =
    let up : p - 1 + 1 ≤ periods = omega arith in
    omega (arith, mul-le-mul_right places up, add-mul (p - 1) 1 places)

-- a table has so few totals that their places fit any index
pub cell_small : (periods places p q : ℕ) → p ≤ 255 → places ≤ 4096 → q < places → (p - 1) * places + q < 2 ^ 32
cell_small periods places p q h k l =
    let less : p - 1 ≤ 255 = omega arith in
    let few : (p - 1) * places ≤ 255 * 4096 = mul-le-mul less k in
    omega arith

-- two totals that lie at one place are of one period and one place
same_period : (w p q r k : ℕ) → 1 ≤ p → 1 ≤ r → q < w → k < w → cell_of w p q ≡ cell_of w r k → p ≡ r
same_period w p q r k a b h l e =
    let same : p - 1 ≡ r - 1 = sym (div-mul-add (p - 1) w q h) ∙ ap (λ n. n / w) e ∙ div-mul-add (r - 1) w k l in
    omega arith

same_place : (w p q r k : ℕ) → q < w → k < w → cell_of w p q ≡ cell_of w r k → q ≡ k
same_place w p q r k h l e = sym (mod-mul-add (p - 1) w q h) ∙ ap (λ n. n % w) e ∙ mod-mul-add (r - 1) w k l

-- a table with one total changed
pub set_total : {X : Type 0} (d : X) (cells : List X) (n w r k : ℕ) (v : X) → length cells ≡ n * w → HasTotal n w r k → (p q : ℕ) → HasTotal n w p q →
    get_or (set cells (cell_of w r k) v) (cell_of w p q) d ≡ cond (eqb p r && eqb k q) v (get_or cells (cell_of w p q) d)
set_total {X} d cells n w r k v sized there p q here = by (eqb p r) refl (eqb k q) refl
  where
    within : cell_of w r k < length cells
    within = let below = cell_below n w r k there in omega arith

    by : (a : Bool) → eqb p r ≡ a → (b : Bool) → eqb k q ≡ b → get_or (set cells (cell_of w r k) v) (cell_of w p q) d ≡ cond (a && b) v (get_or cells (cell_of w p q) d)
    by true e true f = rw (eqb-true p r e, ← eqb-true k q f) (get_or-set_same cells (cell_of w r k) v d within)
    by true e false f =
        get_or-set_other cells (cell_of w r k) (cell_of w p q) v d (λ g. eqb-false k q f (sym (same_place w p q r k here.2 there.2 g)))
    by false e b f =
        get_or-set_other cells (cell_of w r k) (cell_of w p q) v d (λ g. eqb-false p r e (same_period w p q r k here.0 there.0 here.2 there.2 g))
