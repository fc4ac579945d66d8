-- Where a count stands still.
use Rattle.std.specs.Prelude.{ℕ, ◌-◌, ◌^◌}

-- the greatest number of 64 bits: a count that has come to it rises no further
abbrev pub last_count : ℕ
last_count = 2 ^ 64 - 1
