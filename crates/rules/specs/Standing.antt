-- What a call is judged on.
use Rattle.std.specs.Prelude.{◌≡◌, ℕ, ◌*◌, ◌≤◌, List, length, Option}
use Rattle.meters.specs.declared.row.MeterRow.{MeterRow}
use Rattle.stores.specs.Grid.{Grid}
use Rattle.rules.specs.declared.state.State.{State}
use Rattle.rules.specs.declared.sizes.Sizes.{Sizes}
use Rattle.rules.specs.declared.case.Case.{Case}
use Rattle.stores.specs.declared.store.Store as store
use Rattle.rules.specs.Asked.{Asked, settle, deliver, amend, factor, shape, close}

-- the state of the day, the sizes of what was handed over, how many meters and periods the store has and what it shows, and the records,
-- factors and shapes
pub record Standing : Type 0 where
  pub state : State
  pub sizes : Sizes
  pub stored_meters : ℕ
  pub stored_periods : ℕ
  pub grid : Grid
  pub rows : List MeterRow
  pub factors : List (Option ℕ)
  pub shapes : List (Option ℕ)

abbrev pub standing : State → Sizes → ℕ → ℕ → Grid → List MeterRow → List (Option ℕ) → List (Option ℕ) → Standing
standing state sizes ms ps grid rows factors shapes = record {
  state = state;
  sizes = sizes;
  stored_meters = ms;
  stored_periods = ps;
  grid = grid;
  rows = rows;
  factors = factors;
  shapes = shapes;
}

-- that of a case, by what its store means
abbrev pub standing_of : {X P : Type 0} → store.Ghosts X P → Case X → Standing
standing_of s c =
    standing c.state c.sizes (s.meters c.sources.store.now) (s.periods c.sources.store.now) (s.grid c.sources.store.now) c.sources.rows.now c.sources.factors.now c.sources.shapes.now

-- P is 1 to 50 and V is 1 to 1,000,000,000; there are meters, and no more than the store has; the store's periods are P; and the tables
-- are 40 × P factors, 32 × P shapes and for each report P × places of totals
pub record Sized (x : Standing) : Type 0 where
  pub some_periods : 1 ≤ x.sizes.periods
  pub few_periods : x.sizes.periods ≤ 50
  pub some_limit : 1 ≤ x.sizes.limit
  pub low_limit : x.sizes.limit ≤ 1000000000
  pub some_meters : 1 ≤ length x.rows
  pub few_meters : length x.rows ≤ x.stored_meters
  pub same_periods : x.stored_periods ≡ x.sizes.periods
  pub factors : length x.factors ≡ 40 * x.sizes.periods
  pub shapes : length x.shapes ≡ 32 * x.sizes.periods
  pub first : x.sizes.first.totals ≡ x.sizes.periods * x.sizes.first.places
  pub second : x.sizes.second.totals ≡ x.sizes.periods * x.sizes.second.places

-- one of so many meters, and of so many periods
abbrev pub Counted : ℕ → ℕ → Type 0
Counted n m = (1 ≤ m) × (m ≤ n)

-- a meter of the day, and a period of the day
abbrev pub IsMeter : Standing → ℕ → Type 0
IsMeter x m = Counted (length x.rows) m

abbrev pub IsPeriod : Standing → ℕ → Type 0
IsPeriod x p = Counted x.sizes.periods p

-- the meter, the class and the period that a call names exist, of so many meters and periods, 40 loss classes and 32 shape classes
abbrev pub Exists : ℕ → ℕ → Asked → Type 0
Exists meters periods settle = Unit {0}
Exists meters periods (deliver m p d) = Counted meters m × Counted periods p
Exists meters periods (amend m row) = Counted meters m
Exists meters periods (factor k p f) = Counted 40 k × Counted periods p
Exists meters periods (shape k p v) = Counted 32 k × Counted periods p
Exists meters periods close = Unit {0}

-- what a call names exists
abbrev pub Named : Standing → Asked → Type 0
Named x c = Exists (length x.rows) x.sizes.periods c
