-- The places of the two reports, counted from 0.
use Rattle.std.specs.Prelude.{◌≡◌, ℕ, ◌+◌, ◌-◌, ◌*◌, ◌<◌, ◌≤◌, Some, None, Option}

-- a BM Unit, 1 to 16, and a class, 100 to 182
abbrev pub IsUnit : ℕ → ℕ → Type 0
IsUnit unit class = (1 ≤ unit) × (unit ≤ 16) × (100 ≤ class) × (class ≤ 182)

-- their place: 83 classes to a BM Unit
abbrev pub unit_place : ℕ → ℕ → ℕ
unit_place unit class = (unit - 1) * 83 + (class - 100)

-- a tariff, 1 to 32, and a supplier, 1 to 8
abbrev pub IsDuos : ℕ → ℕ → Type 0
IsDuos tariff supplier = (1 ≤ tariff) × (tariff ≤ 32) × (1 ≤ supplier) × (supplier ≤ 8)

-- their place: 8 suppliers to a tariff
abbrev pub duos_place : ℕ → ℕ → ℕ
duos_place tariff supplier = (tariff - 1) * 8 + (supplier - 1)

-- a row, counted from 1, and a column, counted from a first one
abbrev pub IsRowColumn : ℕ → ℕ → ℕ → ℕ → ℕ → Type 0
IsRowColumn rows columns first row column = (1 ≤ row) × (row ≤ rows) × (first ≤ column) × (column < first + columns)

-- their place: so many columns to a row
abbrev pub place_of : ℕ → ℕ → ℕ → ℕ → ℕ
place_of columns first row column = (row - 1) * columns + (column - first)

-- the place of a row and a column, or none where they do not exist
abbrev pub Placed : ℕ → ℕ → ℕ → ℕ → ℕ → Option ℕ → Type 0
Placed rows columns first row column (Some place) = IsRowColumn rows columns first row column × (place ≡ place_of columns first row column)
Placed rows columns first row column None = IsRowColumn rows columns first row column → ⊥

-- what stands at a place
abbrev pub StandsAt : ℕ → ℕ → ℕ → ℕ → Option (ℕ × ℕ) → Type 0
StandsAt rows columns first place (Some at) = IsRowColumn rows columns first at.0 at.1 × (place ≡ place_of columns first at.0 at.1)
StandsAt rows columns first place None = rows * columns ≤ place

-- the place of a BM Unit and a class, or none where they do not exist
abbrev pub UnitPlaced : ℕ → ℕ → Option ℕ → Type 0
UnitPlaced unit class (Some place) = IsUnit unit class × (place ≡ unit_place unit class)
UnitPlaced unit class None = IsUnit unit class → ⊥

-- what stands at a place of the BM Unit report, which has 16 × 83 places
abbrev pub UnitAt : ℕ → Option (ℕ × ℕ) → Type 0
UnitAt place (Some at) = IsUnit at.0 at.1 × (place ≡ unit_place at.0 at.1)
UnitAt place None = 1328 ≤ place

-- the same of a tariff and a supplier, in a report that has 32 × 8 places
abbrev pub DuosPlaced : ℕ → ℕ → Option ℕ → Type 0
DuosPlaced tariff supplier (Some place) = IsDuos tariff supplier × (place ≡ duos_place tariff supplier)
DuosPlaced tariff supplier None = IsDuos tariff supplier → ⊥

abbrev pub DuosAt : ℕ → Option (ℕ × ℕ) → Type 0
DuosAt place (Some at) = IsDuos at.0 at.1 × (place ≡ duos_place at.0 at.1)
DuosAt place None = 256 ≤ place

-- no two share a place, and each has one
pub record PlaceLaws : Type 0 where
  pub unit_within : (u c : ℕ) → IsUnit u c → unit_place u c < 1328
  pub one_unit : (u c v d : ℕ) → IsUnit u c → IsUnit v d → unit_place u c ≡ unit_place v d → (u ≡ v) × (c ≡ d)
  pub duos_within : (t s : ℕ) → IsDuos t s → duos_place t s < 256
  pub one_duos : (t s v r : ℕ) → IsDuos t s → IsDuos v r → duos_place t s ≡ duos_place v r → (t ≡ v) × (s ≡ r)
