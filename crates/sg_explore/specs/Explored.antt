-- What is explored of a script: the play without stops, and one for each set of stops that is tried.
use Rattle.std.specs.Prelude.{ℕ, ◌≡◌, ◌≢◌, ◌↔◌, IsTrue, List, [], map}
use Rattle.std.specs.List.{list_any}
use Rattle.sg_facts.specs.Interface.{Declared}
use Rattle.sg_facts.specs.Trace.{run_of}
use Rattle.sg_facts.specs.sg_base.Lists.{Each}
use Rattle.sg_report.specs.sg_hist.declared.ended.Ended.{Ended}
use Rattle.sg_shared.specs.Runs.{IsRunInOrder}
use Rattle.sg_shared.specs.sg_sim.sg_plain.Answering.{Answering}
use Rattle.sg_shared.specs.sg_sim.sg_script.declared.script.Script.{Script}
use Rattle.sg_explore.specs.declared.exploring.Explored.{Explored}
use Rattle.sg_explore.specs.Text.{all_ends, exploration_text}
use Rattle.sg_explore.specs.Tried.{Tried, has_waiting, stops_tried}

-- a run was tried: it is one in order of the script with its stops, and it differs where its entries aren't those of the play without stops
abbrev pub IsTried : Declared → Answering → Script → Ended → Tried → Type 0
IsTried i service script plain t =
    IsRunInOrder i service (record script { stops = t.stops }) t.ended
    × (IsTrue t.differs ↔ (t.ended.history.items ≢ plain.history.items))

-- the play without stops was made and one run for each set of stops that is tried, in their order, whatever stops the script has; and
-- this is what is printed of them, and whether some client waits at the end of one
pub record IsExplored (i : Declared) (service : Answering) (script : Script) (most : ℕ) (found : Explored) : Type 0 where
  pub plain : Ended
  pub its : IsRunInOrder i service (record script { stops = [] }) plain
  pub others : List Tried
  pub tried : map (λ t. t.stops) others ≡ stops_tried (run_of plain.trace).points most
  pub each : Each (IsTried i service script plain) others
  pub text : found.text ≡ exploration_text i.facts plain others
  pub waits : found.waits ≡ list_any has_waiting (all_ends plain others)
