-- How many clients wait.
use Rattle.std.specs.Prelude.{ℕ, List, cond, count_by}
use Rattle.sg_clients.specs.WorldView.{Seat, is_blocked_phase}

-- one, if the client of a seat waits
abbrev pub count_if_waits : Seat → ℕ
count_if_waits s = cond (is_blocked_phase s.phase) 1 0

-- the number of the seats whose clients wait
abbrev pub waiting_in : List Seat → ℕ
waiting_in seats = count_by (λ s. is_blocked_phase s.phase) seats
