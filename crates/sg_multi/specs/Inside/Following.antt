-- How a play over several services follows the play without stops, while no member is stopped, and what it makes of its entries afterwards.
use Rattle.std.specs.Prelude.{ℕ, ◌≡◌, ◌≢◌, ◌⊎◌, ◌+◌, ◌-◌, ◌≤◌, true, false, List, [], ◌∷◌, ◌++◌, None, Some, IsSome, drop, length, map, slice_get}
use Rattle.std.specs.List.{list_any}
use Rattle.std.specs.Option.{option_map_or}
use Rattle.std.specs.declared.option.Option.{Option}
use Rattle.sg_facts.specs.Facts.{Facts, is_visible}
use Rattle.sg_facts.specs.Object.{Object}
use Rattle.sg_facts.specs.Trace.{Boot}
use Rattle.sg_facts.specs.declared.entry.Entry.{Entry}
use Rattle.sg_facts.specs.declared.trace.Item.{Item}
use Rattle.sg_facts.specs.sg_base.Lists.{Each}
use Rattle.sg_multi.specs.Members.{Membered, setting_in, view_in}
use Rattle.sg_multi.specs.sg_sim.sg_plain.Calls.{ascending_from, most_client}
use Rattle.sg_multi.specs.sg_sim.sg_plain.Plain.{PlainPhase, Player, Stage, first_stage, left_schedule, next_turn, ready, stage_from, through}
use Rattle.sg_multi.specs.sg_sim.sg_plain.Playing.Given.{given_in}
use Rattle.sg_multi.specs.sg_sim.sg_play.Following.Follows.{HoldAll, IsAllThere}
use Rattle.sg_multi.specs.sg_sim.sg_play.Following.Stages.{phase_by}
use Rattle.sg_multi.specs.sg_sim.sg_play.sg_hist.Reading.{is_by_guard, is_item_of, items_of}
use Rattle.sg_multi.specs.sg_sim.sg_play.sg_hist.Recovered.{struck_in}
use Rattle.sg_multi.specs.sg_sim.sg_script.declared.multi.MultiScript.{MultiScript}
use Rattle.sg_multi.specs.sg_sim.sg_clients.WorldView.{Seat, WorldView, seat_of}
use Rattle.sg_multi.specs.sg_sim.sg_clients.declared.phase.Phase.TheVariants.{Held}
use Rattle.sg_multi.specs.sg_sim.sg_world_laws.Setting.{Setting}
use Rattle.sg_multi.specs.Inside.Whose.{next_of, seat_at}
use Rattle.sg_multi.specs.Merged.{MultiEntry, entries_at}
use Rattle.sg_multi.specs.Played.{stubs_in}
use Rattle.sg_multi.specs.SeveralServices.{multi_workload, several_services}

-- ---- the stage

-- what a client is at that has a call under way, or one more, by its seat in the world of that call's member
abbrev pub phase_at : Seat → PlainPhase
phase_at s = phase_by s.phase s.reply ready

-- the player of a client
abbrev pub player_now : List Membered → MultiScript → List (List ℕ) → ℕ → Player
player_now members script given client = record {
  done = length (given_in given client);
  phase = option_map_or (λ c. phase_at (seat_at members (c.member - 1) client)) (next_of script given client) through;
}

-- the players of all clients
abbrev pub players_now : List Membered → MultiScript → List (List ℕ) → List Player
players_now members script given = map (player_now members script given) (ascending_from 1 (most_client script.clients))

-- the stage with these members, calls that were given and entries, where this is left of the schedule, and this client took the last turn
abbrev pub stage_with : List Membered → MultiScript → List (List ℕ) → List MultiEntry → List ℕ → ℕ → Stage MultiEntry
stage_with members script given merged schedule last =
    record { history = merged; players = players_now members script given; schedule = schedule; last = last }

-- the same where so many turns of the schedule were taken or passed over
abbrev pub stage_now : List Membered → MultiScript → List (List ℕ) → List MultiEntry → ℕ → ℕ → Stage MultiEntry
stage_now members script given merged passed last = stage_with members script given merged (drop passed script.schedule) last

-- a client takes the next turn there, and so many turns of the schedule are taken or passed over then
pub record IsNextMultiTurn (script : MultiScript) (stage : Stage MultiEntry) (client later : ℕ) : Type 0 where
  pub turn : next_turn (multi_workload script) stage ≡ Some client
  pub schedule : drop later script.schedule ≡ left_schedule (multi_workload script) stage

-- ---- a member

-- a service is in its first boot and didn't stop: all that it needs is there, and each reply that a client holds is of that boot
pub record NeverStruck (z : Setting) (w : WorldView) : Type 0 where
  pub hold : HoldAll z.iface.facts w.seats
  pub items : List Item
  pub one : w.run.boots ≡ record { items = items; stop = None } ∷ []
  pub up : IsSome w.running
  pub all_there : IsAllThere z.iface.facts w.history items
  pub held : (client : ℕ) → 1 ≤ client → (seat_of w client).phase ≡ Held → (seat_of w client).boot ≡ 1

-- ---- the play

-- no member was stopped so far
abbrev pub NoneStruck : List Membered → Type 0
NoneStruck members = (place : ℕ) (m : Membered) → slice_get members place ≡ Some m → struck_in (view_in m).run ≡ []

-- the play is at a stage of the play without stops
pub record FollowsMulti (members : List Membered) (script : MultiScript) (given : List (List ℕ)) (merged : List MultiEntry) (passed last : ℕ) : Type 0 where
  pub up : (place : ℕ) (m : Membered) → slice_get members place ≡ Some m → NeverStruck (setting_in m) (view_in m)
  pub turns : ℕ
  pub at : stage_now members script given merged passed last ≡ stage_from (several_services (map stubs_in members) script) (multi_workload script) (first_stage (multi_workload script)) turns

-- ---- once a member was stopped

-- an entry isn't visible, or a refusal by the guard, or it has one of these items
abbrev pub IsNotBefore : Facts → List Item → Entry → Type 0
IsNotBefore facts items e = (is_visible facts e.call.fun ≡ false) ⊎ (is_by_guard e.reply ≡ true) ⊎ (list_any (is_item_of e) items ≡ true)

-- a service stopped in its first boot, and each visible entry that was made since has its item in a later one
pub record HasStopped (facts : Facts) (since : List Entry) (boots : List Boot) (running : Option Object) : Type 0 where
  pub first : Boot
  pub newer : List Boot
  pub are : boots ≡ first ∷ newer
  pub stopped : IsSome first.stop
  pub again : IsSome running → newer ≢ []
  pub later : Each (IsNotBefore facts (items_of newer)) since

-- a member was stopped: up to then the entries were those of a stage of the play without stops, and each visible one that it made since has
-- its item in a later boot than the first; and a reply that a client of it holds is of a call that isn't visible
pub record IsPastFirstStop (members : List Membered) (script : MultiScript) (merged : List MultiEntry) : Type 0 where
  pub place : ℕ
  pub member : Membered
  pub there : slice_get members place ≡ Some member
  pub turns : ℕ
  pub more : List MultiEntry
  pub entries : merged ≡ (stage_from (several_services (map stubs_in members) script) (multi_workload script) (first_stage (multi_workload script)) turns).history ++ more
  pub past : HasStopped (setting_in member).iface.facts (entries_at (place + 1) more) (view_in member).run.boots (view_in member).running
  pub hold : HoldAll (setting_in member).iface.facts (view_in member).seats

-- no member was stopped so far, or one was
abbrev pub Begins : List Membered → MultiScript → List MultiEntry → Type 0
Begins members script merged = NoneStruck members ⊎ IsPastFirstStop members script merged
