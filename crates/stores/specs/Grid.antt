-- What a store means: the grid of its readings.
use Rattle.std.specs.Prelude.{◌≡◌, ℕ, ◌≤◌, cond, ◌&&◌, Some, None, Ok, Err, Option, Result, ◌==◌}
use Rattle.market.specs.declared.refusal.Refusal.{Refusal}
use Rattle.market.specs.Refusal.{number_of}
use Rattle.readings.specs.declared.reading.Reading.{Reading}

-- for each meter and period nothing or one reading
abbrev pub Grid : Type 0
Grid = ℕ → ℕ → Option Reading

-- the grid with one place replaced
abbrev pub with_place : Grid → ℕ → ℕ → Reading → Grid
with_place g m p r = λ i j. cond (i == m && j == p) (Some r) (g i j)

-- a place of a store that has ms meters and ps periods
abbrev pub Inside : ℕ → ℕ → ℕ → ℕ → Type 0
Inside ms ps m p = (1 ≤ m) × (m ≤ ms) × (1 ≤ p) × (p ≤ ps)

-- outside its meters and periods a store tells nothing
abbrev pub Bounded : Grid → ℕ → ℕ → Type 0
Bounded g ms ps = (i j : ℕ) → (Inside ms ps i j → ⊥) → g i j ≡ None

-- what a put never changes, as a tree of numbers: the names of the memory that a store is lent, and what was set at its making
pub data Fixed : Type 0 where
  one : ℕ → Fixed
  both : Fixed → Fixed → Fixed

-- turned down by 3
abbrev pub TurnedDown : Result (Unit {0}) Refusal → Type 0
TurnedDown (Ok x) = ⊥
TurnedDown (Err e) = number_of e ≡ 3

-- putting a reading: inside the store it is always accepted, and replaces one place and no other; outside it gets 3 and alters nothing
pub record Put {S : Type 0} (grid : S → Grid) (meters periods : S → ℕ) (fixed : S → Fixed) (before after : S) (m p : ℕ) (reading : Reading) (r : Result (Unit {0}) Refusal) : Type 0 where
  pub taken : Inside (meters before) (periods before) m p → (r ≡ Ok tt) × ((i j : ℕ) → grid after i j ≡ with_place (grid before) m p reading i j)
  pub refused : (Inside (meters before) (periods before) m p → ⊥) → TurnedDown r × (after ≡ before)
  pub size : (meters after ≡ meters before) × (periods after ≡ periods before)
  pub keeps : fixed after ≡ fixed before
