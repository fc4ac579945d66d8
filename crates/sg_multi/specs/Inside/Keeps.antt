-- What a play over several services keeps between turns.
use Rattle.std.specs.Prelude.{ℕ, ◌≡◌, ◌≢◌, ◌≤◌, ◌==◌, Bool, nat_lt, true, false, List, [], Some, length, map, slice_get, take}
use Rattle.std.specs.List.{list_all}
use Rattle.sg_facts.specs.Interface.{Declared}
use Rattle.sg_multi.specs.Members.{Membered, setting_in, view_in}
use Rattle.sg_multi.specs.sg_sim.sg_plain.Calls.{most_client}
use Rattle.sg_multi.specs.sg_sim.sg_plain.Playing.Callers.{is_receipted}
use Rattle.sg_multi.specs.sg_sim.sg_plain.Playing.Given.{GaveIds, given_in}
use Rattle.sg_multi.specs.sg_sim.sg_script.declared.multi.MultiScript.{MultiScript}
use Rattle.sg_multi.specs.sg_sim.sg_clients.WorldView.{seat_of}
use Rattle.sg_multi.specs.Calls.{AreFirstMultiCalls, multi_calls}
use Rattle.sg_multi.specs.Inside.Callers.{IsSeatOf}
use Rattle.sg_multi.specs.Inside.Member.{KeepsMember}
use Rattle.sg_multi.specs.Merged.{Merges, MultiEntry, entries_in, own_in}
use Rattle.sg_multi.specs.Playable.{IsMultiPlayable}

-- ---- one client

-- the interfaces of members
abbrev pub interfaces_of : List Membered → List Declared
interfaces_of members = map (λ m. m.world.tables.iface) members

-- no reply of a client is still to be handed over
abbrev pub IsAllHanded : List Membered → ℕ → Type 0
IsAllHanded members client = (place : ℕ) (m : Membered) → slice_get members place ≡ Some m → is_receipted (seat_of (view_in m) client).phase ≡ false

-- a client's entries are its first calls of the script, over all members; these descriptors are what it was handed; and it has one call at
-- a time under way over all members
pub record IsMultiCaller (members : List Membered) (script : MultiScript) (merged : List MultiEntry) (client : ℕ) (given : List ℕ) : Type 0 where
  pub made : AreFirstMultiCalls (interfaces_of members) merged client (own_in client merged) (multi_calls script client)
  pub gave : GaveIds (take (length given) (entries_in (own_in client merged))) given
  pub seats : (place : ℕ) (m : Membered) → slice_get members place ≡ Some m → IsSeatOf (interfaces_of members) script merged client given place (seat_of (view_in m) client)
  pub settled : IsAllHanded members client → length (own_in client merged) ≡ length given

-- ---- the play

-- whether client 1 is still at the calls of the setup
abbrev pub is_multi_setting_up : MultiScript → List (List ℕ) → Bool
is_multi_setting_up script given = nat_lt (length (given_in given 1)) (length script.setup)

-- whether entries are all of client 1
abbrev pub all_of_first : List MultiEntry → Bool
all_of_first merged = list_all (λ e. e.entry.call.client == 1) merged

-- each member's world is that of a play of its own, the clients make the script's calls over all members, and those of the setup came
-- first; where `order` has the member of each entry, and `given` what each client was handed
pub record KeepsMulti (members : List Membered) (script : MultiScript) (given : List (List ℕ)) (order : List ℕ) : Type 0 where
  pub playable : IsMultiPlayable (interfaces_of members) script
  pub plans : map (λ m. m.world.plan) members ≡ script.stops
  pub clients : (place : ℕ) (m : Membered) → slice_get members place ≡ Some m → length (view_in m).seats ≡ most_client script.clients
  pub lists : length given ≡ most_client script.clients
  pub each : (place : ℕ) (m : Membered) → slice_get members place ≡ Some m → KeepsMember (setting_in m) (view_in m)
  pub merged : List MultiEntry
  pub merges : Merges order (map (λ m. (view_in m).history) members) merged
  pub callers : (client : ℕ) → 1 ≤ client → client ≤ most_client script.clients → IsMultiCaller members script merged client (given_in given client)
  pub none_else : (client : ℕ) → own_in client merged ≢ [] → (1 ≤ client) × (client ≤ most_client script.clients)
  pub front : all_of_first (take (length script.setup) merged) ≡ true
  pub setting_up : is_multi_setting_up script given ≡ true → all_of_first merged ≡ true
