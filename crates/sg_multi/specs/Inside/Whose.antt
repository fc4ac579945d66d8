-- Whose turn it may be over several services.
use Rattle.std.specs.Prelude.{ℕ, ◌≡◌, ◌-◌, ◌≤◌, Bool, not, false, List, length, slice_get}
use Rattle.std.specs.Option.{option_map_or}
use Rattle.std.specs.declared.option.Option.{Option}
use Rattle.sg_multi.specs.Members.{Membered, view_in}
use Rattle.sg_multi.specs.sg_sim.sg_plain.Calls.{most_client}
use Rattle.sg_multi.specs.sg_sim.sg_plain.Playing.Given.{given_in}
use Rattle.sg_multi.specs.sg_sim.sg_script.declared.multi.MultiCall.{MultiCall}
use Rattle.sg_multi.specs.sg_sim.sg_script.declared.multi.MultiScript.{MultiScript}
use Rattle.sg_multi.specs.sg_sim.sg_clients.WorldView.{Seat, is_blocked_phase, no_seat, seat_of}
use Rattle.sg_multi.specs.Calls.{multi_calls}

-- the seat of a client in the world at a place, from 0; that of nobody where there is no such place
abbrev pub seat_at : List Membered → ℕ → ℕ → Seat
seat_at members place client = option_map_or (λ m. seat_of (view_in m) client) (slice_get members place) no_seat

-- the call that a client has under way or makes next, over all members
abbrev pub next_of : MultiScript → List (List ℕ) → ℕ → Option MultiCall
next_of script given client = slice_get (multi_calls script client) (length (given_in given client))

-- whether a client may take a turn: it has a call under way, or one more, and doesn't wait
abbrev pub may_go_on : List Membered → MultiScript → List (List ℕ) → ℕ → Bool
may_go_on members script given client = option_map_or (λ c. not (is_blocked_phase (seat_at members (c.member - 1) client).phase)) (next_of script given client) false

-- no client may take a turn
abbrev pub NobodyGoesOn : List Membered → MultiScript → List (List ℕ) → Type 0
NobodyGoesOn members script given = (client : ℕ) → 1 ≤ client → client ≤ most_client script.clients → may_go_on members script given client ≡ false
