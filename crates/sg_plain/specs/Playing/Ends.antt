-- How the clients of a play end, by their seats.
use Rattle.std.specs.Prelude.{ℕ, ◌+◌, ◌==◌, Bool, not, if◌then◌else◌, List, [], ◌∷◌, length}
use Rattle.sg_clients.specs.sg_hist.declared.ended.End.{End}
use Rattle.sg_clients.specs.sg_hist.declared.ended.End.TheVariants.{Done, Blocked}
use Rattle.sg_plain.specs.Calls.{script_calls}
use Rattle.sg_script.specs.declared.script.Script.{Script}
use Rattle.sg_clients.specs.WorldView.{Seat, is_blocked_phase}

-- whether a client has a call
abbrev pub has_calls : Script → ℕ → Bool
has_calls script client = not (length (script_calls script client) == 0)

-- a client that waits does so in its call, and any other is done
abbrev pub end_of : Seat → End
end_of s = if is_blocked_phase s.phase then Blocked s.call else Done

-- the ends of the clients with a call, numbered from a number on
abbrev pub ends_from : Script → ℕ → List Seat → List (ℕ × End)
ends_from script n [] = []
ends_from script n (s ∷ seats) = if has_calls script n then (n, end_of s) ∷ ends_from script (n + 1) seats else ends_from script (n + 1) seats
