-- The limits of readings.
use Rattle.std.specs.Prelude.{ℕ}

-- the latest stamp, in seconds since 1970
abbrev pub latest_stamp : ℕ
latest_stamp = 4294967295

-- the largest volume, in Wh
abbrev pub largest_volume : ℕ
largest_volume = 1000000000
