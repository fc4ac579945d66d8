-- Whose turn it may be.
use Rattle.std.specs.Prelude.{ℕ, ◌≡◌, ◌≤◌, Bool, true, false, List, nat_lt, length}
use Rattle.sg_plain.specs.Calls.{script_calls}
use Rattle.sg_script.specs.declared.script.Script.{Script}
use Rattle.sg_clients.specs.WorldView.{Seat, seat_in}
use Rattle.sg_clients.specs.declared.phase.Phase.{Phase}
use Rattle.sg_clients.specs.declared.phase.Phase.TheVariants.{Idle, Asked, Held, Receipted, Blocked, Left}

-- a client in a phase has no call under way
abbrev pub is_free_phase : Phase → Bool
is_free_phase Idle = true
is_free_phase Left = true
is_free_phase Asked = false
is_free_phase Held = false
is_free_phase Receipted = false
is_free_phase Blocked = false

-- a client in a phase may take a turn: it has a call under way and doesn't wait, or it has none and has more calls
abbrev pub may_go : Phase → Bool → Bool
may_go Idle more = more
may_go Left more = more
may_go Asked more = true
may_go Held more = true
may_go Receipted more = true
may_go Blocked more = false

-- a client may take a turn
abbrev pub may_take_turn : Script → ℕ → Seat → Bool
may_take_turn script client s = may_go s.phase (nat_lt s.seq (length (script_calls script client)))

-- no client may take a turn
abbrev pub NobodyGoes : Script → List Seat → Type 0
NobodyGoes script seats = (client : ℕ) → 1 ≤ client → client ≤ length seats → may_take_turn script client (seat_in seats client) ≡ false
