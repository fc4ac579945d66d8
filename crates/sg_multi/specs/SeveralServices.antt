-- Several services and a script for them, as what the play without stops is played of.
use Rattle.std.specs.Prelude.{ℕ, ◌+◌, ◌-◌, ◌==◌, ◌&&◌, false, List, None, length, option_map, slice_get}
use Rattle.std.specs.Option.{option_map_or}
use Rattle.std.specs.declared.option.Option.{Option}
use Rattle.sg_facts.specs.sg_base.declared.call.Call.{Call}
use Rattle.sg_facts.specs.Facts.{is_visible}
use Rattle.sg_facts.specs.Guard.{guard}
use Rattle.sg_facts.specs.Object.{Object, object_of}
use Rattle.sg_multi.specs.sg_sim.sg_plain.Calls.{most_client, resolved_by}
use Rattle.sg_multi.specs.sg_sim.sg_plain.Plain.{System, Workload}
use Rattle.sg_multi.specs.sg_sim.sg_play.sg_hist.Clients.{calls_of}
use Rattle.sg_multi.specs.sg_sim.sg_play.sg_hist.Recovered.{Stubs}
use Rattle.sg_multi.specs.sg_sim.sg_play.sg_hist.Wakes.{wakes}
use Rattle.sg_multi.specs.sg_sim.sg_script.declared.multi.MultiCall.{MultiCall}
use Rattle.sg_multi.specs.sg_sim.sg_script.declared.multi.MultiScript.{MultiScript}
use Rattle.sg_multi.specs.Calls.{multi_calls}
use Rattle.sg_multi.specs.Merged.{MultiEntry, entries_at, entries_in}

-- a call of one of several services: the number of its member, from 1, and the call
pub record MemberCall : Type 0 where
  pub member : ℕ
  pub call : Call

-- the member of a number, from 1
abbrev pub member_at : List Stubs → ℕ → Option Stubs
member_at members member = slice_get members (member - 1)

-- the object that the entries of the member of a number make
abbrev pub object_at : Stubs → ℕ → List MultiEntry → Object
object_at s member merged = object_of s.interface.facts (entries_at member merged)

-- a call as its client makes it: its number is one more than that of the client's entries at its member, and `$k` is the descriptor that the
-- client's k-th call over all members was given
abbrev pub made_of : List MultiEntry → ℕ → MultiCall → Stubs → MemberCall
made_of merged client written s = record {
  member = written.member;
  call = resolved_by s.interface.facts (entries_in merged) client (length (calls_of (entries_at written.member merged) client) + 1) written.call;
}

-- the call that a client makes when so many of its calls are done, over all members
abbrev pub multi_call_after : List Stubs → MultiScript → List MultiEntry → ℕ → ℕ → Option MemberCall
multi_call_after members script merged client done =
    option_map_or (λ written. option_map (made_of merged client written) (member_at members written.member)) (slice_get (multi_calls script client) done) None

-- the calls of a script, and the services that answer them, each at the object that its own entries make; an answered call wakes only who
-- waits in a call of its member
abbrev pub several_services : List Stubs → MultiScript → System MultiEntry MemberCall
several_services members script = record {
  next = multi_call_after members script;
  guard = λ merged c. option_map_or (λ s. guard s.interface (object_at s c.member merged) c.call) (member_at members c.member) None;
  ask = λ merged c. option_map_or (λ s. s.ask (object_at s c.member merged) c.call) (member_at members c.member) None;
  visible = λ c. option_map_or (λ s. is_visible s.interface.facts c.call.fun) (member_at members c.member) false;
  entry = λ c reply. record { member = c.member; entry = record { call = c.call; reply = reply } };
  wakes = λ merged c reply other. option_map_or (λ o. (o.member == c.member)
      && option_map_or (λ s. wakes s.interface.facts (object_at s c.member merged).rows c.call reply o.call.desc) (member_at members c.member) false)
      other false;
}

-- how many calls a script has for each client, over all members, and its schedule
abbrev pub multi_workload : MultiScript → Workload
multi_workload script = record {
  calls = λ client. length (multi_calls script client);
  most_client = most_client script.clients;
  setup = length script.setup;
  schedule = script.schedule;
}
