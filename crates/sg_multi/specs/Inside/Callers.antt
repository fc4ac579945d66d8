-- What the seats of a client in the worlds of members say of its calls.
use Rattle.std.specs.Prelude.{ℕ, ◌≡◌, ◌+◌, true, List, Some, length, slice_get}
use Rattle.sg_facts.specs.Interface.{Declared}
use Rattle.sg_multi.specs.sg_sim.sg_plain.Playing.Callers.{is_receipted}
use Rattle.sg_multi.specs.sg_sim.sg_script.declared.multi.MultiCall.{MultiCall}
use Rattle.sg_multi.specs.sg_sim.sg_script.declared.multi.MultiScript.{MultiScript}
use Rattle.sg_multi.specs.sg_sim.sg_clients.WorldView.{Seat, is_offered}
use Rattle.sg_multi.specs.Calls.{IsCallOf, multi_calls}
use Rattle.sg_multi.specs.Merged.{MultiEntry, own_in}

-- a client's call that isn't answered is its next, and it was handed all earlier replies
pub record Offers (interfaces : List Declared) (script : MultiScript) (merged : List MultiEntry) (client : ℕ) (given : List ℕ) (place : ℕ) (s : Seat) : Type 0 where
  pub all_given : length (own_in client merged) ≡ length given
  pub written : MultiCall
  pub next : slice_get (multi_calls script client) (length given) ≡ Some written
  pub its : IsCallOf interfaces merged client written (place + 1) s.call

-- a client's reply that is still to be handed over is that of its last entry
pub record HasReceipt (script : MultiScript) (merged : List MultiEntry) (client : ℕ) (given : List ℕ) (place : ℕ) : Type 0 where
  pub one_more : length (own_in client merged) ≡ length given + 1
  pub written : MultiCall
  pub next : slice_get (multi_calls script client) (length given) ≡ Some written
  pub its_member : place + 1 ≡ written.member

-- what a client's seat in the world at a place says of its calls
pub record IsSeatOf (interfaces : List Declared) (script : MultiScript) (merged : List MultiEntry) (client : ℕ) (given : List ℕ) (place : ℕ) (s : Seat) : Type 0 where
  pub offers : is_offered s.phase ≡ true → Offers interfaces script merged client given place s
  pub receipt : is_receipted s.phase ≡ true → HasReceipt script merged client given place
