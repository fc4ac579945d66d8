-- The numbers that are drawn, and the stops. The number of a draw is the upper 32 bits of the state after it.
use Rattle.std.specs.Prelude.{ℕ, zero, suc, ◌+◌, ◌*◌, ◌/◌, ◌%◌, ◌^◌, List, [], ◌∷◌}

-- the state of 64 bits after a draw: multiplied by one number, and another is added
abbrev pub drawn : ℕ → ℕ
drawn x = (x * 6364136223846793005 + 1442695040888963407) % 2 ^ 64

-- the state after so many draws
unfoldable pub after_draws : ℕ → ℕ → ℕ
after_draws x zero = x
after_draws x (suc count) = after_draws (drawn x) count

-- so many stops after one, each at most 1,500 points after the one before it, with a draw for each
unfoldable pub stops_from : ℕ → ℕ → ℕ → List ℕ
stops_from x stop zero = []
stops_from x stop (suc count) =
    let next = stop + (1 + drawn x / 2 ^ 32 % 1500) in
    next ∷ stops_from (drawn x) next count
