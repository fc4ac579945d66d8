-- How the clients of a script end over several members.
use Rattle.std.specs.Prelude.{ℕ, ◌≡◌, ◌-◌, ◌==◌, if◌then◌else◌, List, Some, None, length, map, slice_get}
use Rattle.sg_facts.specs.Legal.{answer}
use Rattle.sg_facts.specs.Object.{object_of}
use Rattle.sg_facts.specs.sg_base.Lists.{Each}
use Rattle.sg_facts.specs.sg_base.declared.call.Call.{Call}
use Rattle.sg_multi.specs.sg_sim.sg_play.sg_hist.Recovered.{Stubs}
use Rattle.sg_multi.specs.sg_sim.sg_play.sg_hist.declared.ended.End.{End}
use Rattle.sg_multi.specs.sg_sim.sg_play.sg_hist.declared.ended.End.TheVariants.{Done as done, Blocked as blocked}
use Rattle.sg_multi.specs.sg_sim.sg_script.declared.multi.MultiScript.{MultiScript}
use Rattle.sg_multi.specs.Calls.{multi_callers, multi_calls}
use Rattle.sg_multi.specs.Merged.{MultiEntry, entries_at, own_in}
use Rattle.sg_multi.specs.SeveralServices.{multi_call_after}
use Rattle.sg_multi.specs.declared.ended.MultiEnd.{MultiEnd}
use Rattle.sg_multi.specs.declared.ended.MultiEnd.TheVariants.{Done, Blocked}

-- a client waits in its next call, which its member can't answer yet
pub record IsWaiting (members : List Stubs) (merged : List MultiEntry) (script : MultiScript) (client member : ℕ) (call : Call) : Type 0 where
  pub next : multi_call_after members script merged client (length (own_in client merged)) ≡ Some (record { member = member; call = call })
  pub stubs : Stubs
  pub there : slice_get members (member - 1) ≡ Some stubs
  pub none : answer stubs.interface stubs.ask (object_of stubs.interface.facts (entries_at member merged)) call ≡ None

-- a client is done: each of its calls is in the merged list; or it waits
abbrev pub IsMultiEnd : List Stubs → List MultiEntry → MultiScript → ℕ → MultiEnd → Type 0
IsMultiEnd members merged script client Done = length (own_in client merged) ≡ length (multi_calls script client)
IsMultiEnd members merged script client (Blocked member call) = IsWaiting members merged script client member call

-- each client with a call has its end, and no other client has one
pub record AreMultiEnds (members : List Stubs) (merged : List MultiEntry) (script : MultiScript) (ends : List (ℕ × MultiEnd)) : Type 0 where
  pub clients : map (λ e. e.0) ends ≡ multi_callers script
  pub each : Each (λ e. IsMultiEnd members merged script e.0 e.1) ends

-- how a client ended as far as a member knows: it waits where it does so in a call of that member
abbrev pub end_at : ℕ → MultiEnd → End
end_at member Done = done
end_at member (Blocked m call) = if m == member then blocked call else done

-- how the clients ended as far as a member knows
abbrev pub ends_at : ℕ → List (ℕ × MultiEnd) → List (ℕ × End)
ends_at member ends = map (λ e. (e.0, end_at member e.1)) ends
