-- A UTC date of 48 periods: its meters and its places.
use Rattle.std.specs.Prelude.{ℕ, ◌+◌, ◌-◌, ◌*◌, min, Bool, ◌&&◌, nat_le}

-- the meters of a date for which there is room for so many: at most 4,096
abbrev pub meters_of : ℕ → ℕ
meters_of room = min room 4096

-- the place of a meter and a period: 48 to a meter, one a period
abbrev pub place_of : ℕ → ℕ → ℕ
place_of m p = (m - 1) * 48 + (p - 1)

-- whether there is such a meter and period
abbrev pub is_inside : ℕ → ℕ → ℕ → Bool
is_inside ms m p = (nat_le 1 m && nat_le m ms) && (nat_le 1 p && nat_le p 48)
