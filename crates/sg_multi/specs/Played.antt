-- What a play over several services promises.
use Rattle.std.specs.Prelude.{ℕ, ◌≡◌, ◌≢◌, ◌+◌, ◌≤◌, ◌==◌, ◌&&◌, nat_le, true, List, [], ◌∷◌, ◌++◌, Some, filter, length, map, slice_get, take}
use Rattle.sg_facts.specs.Facts.{Facts, is_visible}
use Rattle.sg_facts.specs.Legal.{IsLegal}
use Rattle.sg_facts.specs.Trace.{Run, run_of}
use Rattle.sg_facts.specs.declared.trace.Tag.{Tag}
use Rattle.sg_facts.specs.declared.trace.Tag.TheVariants.{Walk, Load, Client}
use Rattle.sg_facts.specs.sg_base.Lists.{Each}
use Rattle.sg_multi.specs.Members.{Membered, setting_by, setting_in, view_in}
use Rattle.sg_multi.specs.sg_sim.Played.{IsOfWorld}
use Rattle.sg_multi.specs.sg_sim.sg_plain.Plain.{IsPlay, first_stage, stage_from}
use Rattle.sg_multi.specs.sg_sim.sg_plain.Promises.{AreWoken, IsSetupFirst, is_in_first_boot, up_to_last}
use Rattle.sg_multi.specs.sg_sim.sg_play.sg_hist.Clients.{AreNumbered}
use Rattle.sg_multi.specs.sg_sim.sg_play.sg_hist.Ending.{HasRecovered}
use Rattle.sg_multi.specs.sg_sim.sg_play.sg_hist.Reading.{Position, places_of, stands_before}
use Rattle.sg_multi.specs.sg_sim.sg_play.sg_hist.Recovered.{Stubs, is_answered_later, struck_in}
use Rattle.sg_multi.specs.sg_sim.sg_play.sg_hist.declared.ended.Ended.{Ended}
use Rattle.sg_multi.specs.sg_sim.sg_script.declared.multi.MultiScript.{MultiScript}
use Rattle.sg_multi.specs.sg_sim.sg_script.declared.script.Script.{Script}
use Rattle.sg_multi.specs.sg_sim.sg_world_laws.Setting.{stubs_of}
use Rattle.sg_multi.specs.Calls.{AreMultiCalls, setup_at}
use Rattle.sg_multi.specs.Ends.{AreMultiEnds, ends_at}
use Rattle.sg_multi.specs.Merged.{Merges, MultiEntry, number_over_all, own_in}
use Rattle.sg_multi.specs.Serving.{serving}
use Rattle.sg_multi.specs.SeveralServices.{multi_workload, several_services}
use Rattle.sg_multi.specs.declared.ended.MultiEnd.{MultiEnd}
use Rattle.sg_multi.specs.declared.play.MemberTables.{MemberTables}

-- what a play over several services came to: the member of each entry, from 1, in the order of the commits, what each member's run came
-- to, and how each client with a call ended
pub record MultiCame : Type 0 where
  pub order : List ℕ
  pub members : List Ended
  pub ends : List (ℕ × MultiEnd)

-- by which the runs of members are judged
abbrev pub stubs_in : Membered → Stubs
stubs_in m = stubs_of (setting_in m)

abbrev pub stubs_by : MemberTables → Stubs
stubs_by t = stubs_of (setting_by (serving t.service) t.tables)

-- the run of one member, with the setup's calls of it, as those of a script, and with its stops
pub record IsMemberPlayed (s : Stubs) (own : Script) (stops : List ℕ) (ended : Ended) : Type 0 where
  -- the replies stand in a history that the service could give with no fault at all
  pub legal : IsLegal s.interface s.ask ended.history.items
  -- the calls of each client are numbered one after the other
  pub numbered : AreNumbered [] ended.history.items
  -- the setup comes first: its calls are done, and no item of another client's turn stands before one of theirs
  pub setup : IsSetupFirst own ended.history.items (run_of ended.trace)
  -- every reboot, walk and load is as it has to be, and each descriptor is in its tracked state when a call reaches the service
  pub recovered : HasRecovered s ended.history.items (run_of ended.trace) ended.ends
  -- the service stopped at its own points, as far as these were asked, and at no others
  pub stopped : struck_in (run_of ended.trace) ≡ filter (λ stop. nat_le stop (run_of ended.trace).points) stops
  -- who waits is woken before it waits again
  pub woken : AreWoken s.interface.facts ended.history.items (run_of ended.trace)

-- an item of a client's call was noted after the client's earlier calls, at whichever member: these are entries before each visible one of
-- the item's member that was answered later
abbrev pub IsAskedInTurn : Facts → List MultiEntry → ℕ → Position → Tag → Type 0
IsAskedInTurn facts merged member p (Walk id k client) = Unit {0}
IsAskedInTurn facts merged member p (Load key client) = Unit {0}
IsAskedInTurn facts merged member p (Client client seq) = (before : List MultiEntry) (e : MultiEntry) (later : List MultiEntry) → merged ≡ before ++ e ∷ later → e.member ≡ member
    → is_visible facts e.entry.call.fun ≡ true → is_answered_later (stands_before p) e.entry ≡ true → number_over_all merged member client seq ≤ length (own_in client before) + 1

-- the entries up to the last that is a visible one of the first boot of the member of a number
abbrev pub first_boot_entries : Stubs → ℕ → Run → List MultiEntry → List MultiEntry
first_boot_entries s member run merged = up_to_last (λ e. (e.member == member) && is_in_first_boot s.interface.facts run.boots e.entry) merged

-- so many entries come no later than the last visible one of the first boot of any member that was stopped
abbrev pub AreBeforeStops : List Stubs → List Ended → List MultiEntry → ℕ → Type 0
AreBeforeStops members ended merged n = (place : ℕ) (s : Stubs) (e : Ended) → slice_get members place ≡ Some s → slice_get ended place ≡ Some e
    → struck_in (run_of e.trace) ≢ [] → n ≤ length (first_boot_entries s (place + 1) (run_of e.trace) merged)

-- a play over members came to this
pub record IsMultiPlayed (members : List Stubs) (script : MultiScript) (came : MultiCame) : Type 0 where
  pub count : length came.members ≡ length members
  -- each member's run is one of its service, by itself
  pub each : (place : ℕ) (s : Stubs) (stops : List ℕ) (ended : Ended) → slice_get members place ≡ Some s → slice_get script.stops place ≡ Some stops
      → slice_get came.members place ≡ Some ended → IsMemberPlayed s (setup_at (place + 1) script) stops ended × (ended.ends ≡ ends_at (place + 1) came.ends)
  -- the entries of all members, in the order of their commits
  pub merged : List MultiEntry
  pub merges : Merges came.order (map (λ e. e.history.items) came.members) merged
  -- they are the script's calls, each once and in its client's order, and those of the setup come first
  pub calls : AreMultiCalls (map (λ s. s.interface) members) script merged
  -- no member was asked a call of a client before its earlier calls were answered
  pub asked : (place : ℕ) (s : Stubs) (ended : Ended) → slice_get members place ≡ Some s → slice_get came.members place ≡ Some ended
      → Each (λ p. IsAskedInTurn s.interface.facts merged (place + 1) p p.item.tag) (places_of (run_of ended.trace))
  -- each client with a call is done, or waits in its next call, which its member can't answer
  pub ends : AreMultiEnds members merged script came.ends
  -- where no member was stopped, they are the entries of the play without stops
  pub plain : Each (λ e. struck_in (run_of e.trace) ≡ []) came.members → IsPlay (several_services members script) (multi_workload script) merged
  -- and else, up to the last visible entry of the first boot of each member that was stopped, the first entries of it
  pub begins : (n : ℕ) → AreBeforeStops members came.members merged n
      → (turns : ℕ) × (take n merged ≡ take n (stage_from (several_services members script) (multi_workload script) (first_stage (multi_workload script)) turns).history)

-- these runs are what the worlds of the members have done, place by place
abbrev pub AreOfMembers : List Membered → List Ended → Type 0
AreOfMembers members ended = (place : ℕ) (m : Membered) (e : Ended) → slice_get members place ≡ Some m → slice_get ended place ≡ Some e → IsOfWorld (view_in m) e
