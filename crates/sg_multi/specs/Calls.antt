-- The calls of a script's clients over several members.
use Rattle.std.specs.Prelude.{ℕ, ◌≡◌, ◌-◌, ◌==◌, Bool, not, List, [], ◌∷◌, Some, filter, length, map, slice_get, take, true}
use Rattle.std.specs.List.{list_all, list_any}
use Rattle.sg_facts.specs.sg_base.Lists.{Each}
use Rattle.sg_facts.specs.sg_base.declared.call.Call.{Call}
use Rattle.sg_facts.specs.Interface.{Declared}
use Rattle.sg_multi.specs.sg_sim.sg_plain.Calls.{ascending_from, calls_with_setup, most_client, resolved_by}
use Rattle.sg_multi.specs.sg_sim.sg_script.declared.multi.MultiCall.{MultiCall}
use Rattle.sg_multi.specs.sg_sim.sg_script.declared.multi.MultiScript.{MultiScript}
use Rattle.sg_multi.specs.sg_sim.sg_script.declared.script.Script.{Script}
use Rattle.sg_multi.specs.Merged.{MultiEntry, entries_in, own_in}

-- ---- the calls of a client

-- all calls of a client, over all members: for client 1 those of the setup come first
abbrev pub multi_calls : MultiScript → ℕ → List MultiCall
multi_calls script client = calls_with_setup script.setup script.clients client

-- the setup's calls of one member, as the setup of a script for it alone
abbrev pub setup_at : ℕ → MultiScript → Script
setup_at member script = record { setup = map (λ c. c.call) (filter (λ c. c.member == member) script.setup); clients = []; schedule = []; stops = [] }

-- a call of a client is this one of the script: of its member, with the member's interface, where `$k` is the descriptor that the
-- client's k-th call over all members was given. It has its own number, since a client's calls are numbered for each member apart
pub record IsCallOf (interfaces : List Declared) (merged : List MultiEntry) (client : ℕ) (written : MultiCall) (member : ℕ) (call : Call) : Type 0 where
  pub iface : Declared
  pub its_member : member ≡ written.member
  pub there : slice_get interfaces (member - 1) ≡ Some iface
  pub is : call ≡ resolved_by iface.facts (entries_in merged) client call.seq written.call

-- entries of a client are, one by one, the first of these calls of its part
abbrev pub AreFirstMultiCalls : List Declared → List MultiEntry → ℕ → List MultiEntry → List MultiCall → Type 0
AreFirstMultiCalls interfaces merged client [] calls = Unit {0}
AreFirstMultiCalls interfaces merged client (e ∷ es) [] = ⊥
AreFirstMultiCalls interfaces merged client (e ∷ es) (c ∷ calls) =
    IsCallOf interfaces merged client c e.member e.entry.call × AreFirstMultiCalls interfaces merged client es calls

-- ---- the clients

-- whether a client has a call
abbrev pub has_multi_calls : MultiScript → ℕ → Bool
has_multi_calls script client = not (length (multi_calls script client) == 0)

-- the clients that have a call, ascending
abbrev pub multi_callers : MultiScript → List ℕ
multi_callers script = filter (has_multi_calls script) (ascending_from 1 (most_client script.clients))

-- the entries are the script's calls: those of each client its first calls, over all members, each once and in their order, none is of
-- another client, and the setup calls come first
pub record AreMultiCalls (interfaces : List Declared) (script : MultiScript) (merged : List MultiEntry) : Type 0 where
  pub each : Each (λ client. AreFirstMultiCalls interfaces merged client (own_in client merged) (multi_calls script client)) (multi_callers script)
  pub none_else : list_all (λ e. list_any (λ c. c == e.entry.call.client) (multi_callers script)) merged ≡ true
  pub setup : list_all (λ e. e.entry.call.client == 1) (take (length script.setup) merged) ≡ true
