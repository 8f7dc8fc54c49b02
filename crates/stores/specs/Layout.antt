-- How the readings of a UTC date lie in cells of memory.
use Rattle.std.specs.Prelude.{◌≡◌, ℕ, ◌+◌, ◌*◌, ◌/◌, ◌<◌, ◌≤◌, cond, List, ◌++◌, length, drop, replicate, Some, None, Option, slice_index_or, ◌≢◌}
use Rattle.readings.specs.declared.reading.Reading.{Reading}
use Rattle.stores.specs.Grid.{Grid}
use Rattle.stores.specs.Date.{meters_of, place_of, is_inside}

-- n cells hold place k, where a place has so many
abbrev pub HasPlace : ℕ → ℕ → ℕ → Type 0
HasPlace cells n k = k * cells + cells ≤ n

-- what a place shows, and nothing where the cells lack it
abbrev pub Shown : {C : Type 0} → ℕ → (List C → ℕ → Option Reading) → List C → ℕ → Option Reading → Type 0
Shown cells shown cs k r = (HasPlace cells (length cs) k → r ≡ shown cs k) × ((HasPlace cells (length cs) k → ⊥) → r ≡ None)

-- a reading is written at a place, and nothing is changed where the cells lack it
abbrev pub Written : {C : Type 0} → ℕ → (List C → ℕ → Reading → List C) → List C → ℕ → Reading → List C → Type 0
Written cells written cs k r next = (HasPlace cells (length cs) k → next ≡ written cs k r) × ((HasPlace cells (length cs) k → ⊥) → next ≡ cs)

-- a written reading is shown, every other place shows what it did, and a blank place shows nothing
pub record LayoutLaws {C : Type 0} (cells : ℕ) (blank : C) (shown : List C → ℕ → Option Reading) (written : List C → ℕ → Reading → List C) : Type 0 where
  -- a place has 1 to 256 cells
  pub some : 1 ≤ cells
  pub few : cells ≤ 256
  pub size : (cs : List C) (k : ℕ) (r : Reading) → HasPlace cells (length cs) k → length (written cs k r) ≡ length cs
  pub back : (cs : List C) (k : ℕ) (r : Reading) → HasPlace cells (length cs) k → shown (written cs k r) k ≡ Some r
  pub elsewhere : (cs : List C) (k j : ℕ) (r : Reading) → HasPlace cells (length cs) k → HasPlace cells (length cs) j → j ≢ k →
      shown (written cs k r) j ≡ shown cs j
  pub nothing : (cs : List C) (k : ℕ) → HasPlace cells (length cs) k → ((i : ℕ) → i < cells → slice_index_or cs (k * cells + i) blank ≡ blank) →
      shown cs k ≡ None

-- how many meters find room in n cells: 48 places to a meter
abbrev pub meters_in : ℕ → ℕ → ℕ
meters_in cells n = meters_of (n / (48 * cells))

-- what the cells hold
abbrev pub grid_in : {C : Type 0} → ℕ → (List C → ℕ → Option Reading) → List C → Grid
grid_in cells shown cs m p = cond (is_inside (meters_in cells (length cs)) m p) (shown cs (place_of m p)) None

-- the cells of a store that was just opened: those of its meters are blank, and the remainder is as it was
abbrev pub blanked : {C : Type 0} → ℕ → C → List C → List C
blanked cells blank cs =
    replicate (meters_in cells (length cs) * 48 * cells) blank ++ drop (meters_in cells (length cs) * 48 * cells) cs
