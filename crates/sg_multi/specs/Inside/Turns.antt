-- How clients end over several services, and the parts of a play that change.
use Rattle.std.specs.Prelude.{ℕ, ◌≡◌, ◌-◌, ◌<◌, ◌≤◌, Bool, if◌then◌else◌, true, false, List, [], ◌∷◌, Some, filter, map, slice_get}
use Rattle.std.specs.Option.{option_map_or}
use Rattle.sg_multi.specs.Members.{Membered}
use Rattle.sg_multi.specs.sg_sim.Inside.Givens.{lists_of}
use Rattle.sg_multi.specs.sg_sim.sg_plain.Calls.{ascending_from, most_client}
use Rattle.sg_multi.specs.sg_sim.sg_script.declared.multi.MultiScript.{MultiScript}
use Rattle.sg_multi.specs.Calls.{has_multi_calls}
use Rattle.sg_multi.specs.Inside.Asked.{AreAskedSoFar}
use Rattle.sg_multi.specs.Inside.Following.{Begins, FollowsMulti, IsNextMultiTurn, NoneStruck, stage_now}
use Rattle.sg_multi.specs.Inside.Keeps.{KeepsMulti, is_multi_setting_up}
use Rattle.sg_multi.specs.Inside.SettingUp.{AreSettingUp}
use Rattle.sg_multi.specs.Inside.Whose.{NobodyGoesOn, may_go_on, next_of, seat_at}
use Rattle.sg_multi.specs.Merged.{MultiEntry}
use Rattle.sg_multi.specs.Played.{stubs_in}
use Rattle.sg_multi.specs.declared.ended.MultiEnd.{MultiEnd}
use Rattle.sg_multi.specs.declared.ended.MultiEnd.TheVariants.{Done, Blocked}
use Rattle.sg_multi.specs.declared.running.Running.{Running}

-- ---- how clients end

-- a client that has a call more waits in it, and any other is done
abbrev pub end_of_client : List Membered → MultiScript → List (List ℕ) → ℕ → MultiEnd
end_of_client members script given client = option_map_or (λ c. Blocked c.member (seat_at members (c.member - 1) client).call) (next_of script given client) Done

-- the end of a client, where it has a call
abbrev pub end_by : List Membered → MultiScript → List (List ℕ) → ℕ → List (ℕ × MultiEnd)
end_by members script given client = if has_multi_calls script client then (client, end_of_client members script given client) ∷ [] else []

-- the ends of the clients with a call, from 1 up to a number
abbrev pub ends_up_to : List Membered → MultiScript → List (List ℕ) → ℕ → List (ℕ × MultiEnd)
ends_up_to members script given last = map (λ c. (c, end_of_client members script given c)) (filter (has_multi_calls script) (ascending_from 1 last))

-- ---- the parts of a play that change

-- they keep what a play keeps, the client of the last turn is one of the play's, the setup comes first in each member's run, which was asked a
-- client's call once its earlier calls were answered; and where no member was stopped so far the play follows the play without stops, whose
-- first entries it has in any case
pub record KeepsRunning {N : Type 0} (script : MultiScript) (r : Running N) : Type 0 where
  pub keeps : KeepsMulti r.members script (lists_of r.given) r.order.items
  pub last_there : r.last ≤ most_client script.clients
  pub sets_up : AreSettingUp r.members script (lists_of r.given)
  pub asked : AreAskedSoFar r.members script keeps.merged
  pub follows : NoneStruck r.members → FollowsMulti r.members script (lists_of r.given) keeps.merged r.passed r.last
  pub begins : Begins r.members script keeps.merged

-- the members are of the services that they were of, with their tables
abbrev pub SameMembers : List Membered → List Membered → Type 0
SameMembers members later = map stubs_in later ≡ map stubs_in members

-- whether client 1 is still at the calls of the setup
abbrev pub is_at_setup : {N : Type 0} → MultiScript → Running N → Bool
is_at_setup script r = is_multi_setting_up script (lists_of r.given)

-- whether a client may take a turn now
abbrev pub may_go_now : {N : Type 0} → MultiScript → Running N → ℕ → Bool
may_go_now script r client = may_go_on r.members script (lists_of r.given) client

-- none of these clients may
abbrev pub NoneAfter : {N : Type 0} → MultiScript → Running N → ℕ → ℕ → Type 0
NoneAfter script r behind last = (client : ℕ) → behind < client → client ≤ last → may_go_now script r client ≡ false

-- no client may
abbrev pub NobodyGoesNow : {N : Type 0} → MultiScript → Running N → Type 0
NobodyGoesNow script r = NobodyGoesOn r.members script (lists_of r.given)

-- no client may, and the setup is done
pub record IsOverNow {N : Type 0} (script : MultiScript) (r : Running N) : Type 0 where
  pub nobody : NobodyGoesNow script r
  pub settled : is_at_setup script r ≡ false

-- no client of the turns of the schedule up to one may take it
abbrev pub NoneScheduled : {N : Type 0} → MultiScript → Running N → ℕ → Type 0
NoneScheduled script r to = (k client : ℕ) → r.passed ≤ k → k < to → slice_get script.schedule k ≡ Some client → 1 ≤ client → client ≤ most_client script.clients → may_go_now script r client ≡ false

-- the first client after one, and up to another, that may
pub record IsFirstAfter {N : Type 0} (script : MultiScript) (r : Running N) (behind last client : ℕ) : Type 0 where
  pub above : behind < client
  pub within : client ≤ last
  pub may : may_go_now script r client ≡ true
  pub before : (other : ℕ) → behind < other → other < client → may_go_now script r other ≡ false

-- a client takes the next turn, and so many turns of the schedule are taken or passed over then, whatever the entries are
abbrev pub TakesNextTurn : {N : Type 0} → MultiScript → Running N → ℕ → ℕ → Type 0
TakesNextTurn script r client later = (merged : List MultiEntry) → IsNextMultiTurn script (stage_now r.members script (lists_of r.given) merged r.passed r.last) client later
