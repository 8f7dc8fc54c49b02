-- How refusals are pinned: the answer is the lowest fault, or there is none.
use Rattle.std.specs.Prelude.{ℕ, ◌<◌, Some, None, Ok, Err, Option, Result}
use Rattle.market.specs.declared.refusal.Refusal.{Refusal}
use Rattle.market.specs.Refusal.{number_of}

-- where P n says that fault n holds: none holds, or fault n does and none of a lower number
abbrev pub Lowest : (ℕ → Type 0) → Option ℕ → Type 0
Lowest P None = (k : ℕ) → P k → ⊥
Lowest P (Some n) = P n × ((k : ℕ) → k < n → P k → ⊥)

-- the number by which a call was turned down, if it was
abbrev pub turned_down : {T : Type 0} → Result T Refusal → Option ℕ
turned_down (Ok x) = None
turned_down (Err e) = Some (number_of e)
