-- A window: one period of a store.
use Rattle.std.specs.Prelude.{ℕ, cond, ◌&&◌, None, ◌==◌, nat_le}
use Rattle.stores.specs.Grid.{Grid}

-- the grid that shows period q of another as its period 1
abbrev pub window_of : Grid → ℕ → Grid
window_of g q m p = cond (p == 1) (g m q) None

-- the meters of the store below, if it has period q
abbrev pub meters_at : ℕ → ℕ → ℕ → ℕ
meters_at ms ps q = cond (nat_le 1 q && nat_le q ps) ms 0
