-- Which scripts are played over several members.
use Rattle.std.specs.Prelude.{ℕ, ◌≡◌, ◌+◌, ◌-◌, ◌≤◌, true, not, nat_le, List, [], ◌∷◌, Some, length, slice_get}
use Rattle.std.specs.List.{list_all}
use Rattle.sg_multi.specs.sg_edge.Stops.{AscendsAbove}
use Rattle.sg_facts.specs.sg_base.Lists.{Each}
use Rattle.sg_facts.specs.Facts.{fun_at}
use Rattle.sg_facts.specs.Interface.{Declared}
use Rattle.sg_facts.specs.Limits.{most_script_calls}
use Rattle.sg_multi.specs.sg_sim.sg_plain.Playing.Playable.{AreClients}
use Rattle.sg_multi.specs.sg_sim.sg_plain.Script.{call_fits}
use Rattle.sg_multi.specs.sg_sim.sg_script.declared.multi.MultiCall.{MultiCall}
use Rattle.sg_multi.specs.sg_sim.sg_script.declared.multi.MultiScript.{MultiScript}
use Rattle.sg_multi.specs.sg_sim.sg_script.Scripts.{most_members}
use Rattle.sg_multi.specs.Calls.{multi_calls}

-- a call is of a member, and fits its interface as its client's call of a number, counted over all members
pub record FitsMember (interfaces : List Declared) (number : ℕ) (c : MultiCall) : Type 0 where
  pub iface : Declared
  pub first : 1 ≤ c.member
  pub there : slice_get interfaces (c.member - 1) ≡ Some iface
  pub fits : call_fits iface number c.call ≡ true

-- calls fit, numbered from a number on
abbrev pub AllFit : List Declared → ℕ → List MultiCall → Type 0
AllFit interfaces number [] = Unit {0}
AllFit interfaces number (c ∷ calls) = FitsMember interfaces number c × AllFit interfaces (number + 1) calls

-- no call may wait that is of one of these members
abbrev pub MayNotWait : List Declared → MultiCall → Type 0
MayNotWait interfaces c = (i : Declared) → slice_get interfaces (c.member - 1) ≡ Some i → not (fun_at i.facts.funs c.call.fun).block ≡ true

-- each client's calls fit the interfaces of their members and are no more than a script may have; the clients ascend; no call of the setup
-- may wait; the turns of the schedule are those of clients, numbered from 1; and each member has its stops, ascending from 1
pub record IsMultiPlayable (interfaces : List Declared) (script : MultiScript) : Type 0 where
  pub fit : (client : ℕ) → AllFit interfaces 1 (multi_calls script client)
  pub few : (client : ℕ) → length (multi_calls script client) ≤ most_script_calls
  pub clients : AreClients 0 script.clients
  pub setup : Each (MayNotWait interfaces) script.setup
  pub turns : list_all (λ client. nat_le 1 client) script.schedule ≡ true
  pub members : length script.stops ≡ length interfaces
  pub at_most : length interfaces ≤ most_members
  pub stops : Each (AscendsAbove 0) script.stops
