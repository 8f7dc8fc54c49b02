-- Faults joined: of two checks, and of every meter or period.
use Rattle.std.specs.Prelude.{◌≡◌, ℕ, zero, suc, ◌≤◌, min, Some, None, Option, Result}
use Rattle.market.specs.declared.refusal.Refusal.{Refusal}
use Rattle.market.specs.Lowest.{turned_down}

-- the lower of two numbers, where there are any
abbrev pub lower : Option ℕ → Option ℕ → Option ℕ
lower None b = b
lower (Some m) None = Some m
lower (Some m) (Some n) = Some (min m n)

-- B m holds of n for some m from 1 to k
abbrev pub Among : ℕ → (ℕ → ℕ → Type 0) → ℕ → Type 0
Among k B n = (m : ℕ) × ((1 ≤ m) × (m ≤ k) × B m n)

-- the lowest number of the checks 1 to k, where post m holds of an answer of check m: of no check none, and of one more the lower of its own
-- and that of those before
abbrev pub LowestOf : (ℕ → Result (Unit {0}) Refusal → Type 0) → ℕ → Option ℕ → Type 0
LowestOf post zero n = n ≡ None
LowestOf post (suc k) n =
    (a : Option ℕ) × ((b : Result (Unit {0}) Refusal) × (LowestOf post k a × post (suc k) b × (n ≡ lower a (turned_down b))))
