-- The calls of a script's clients, and how clients end.
use Rattle.std.specs.Prelude.{ℕ, ◌≡◌, ◌+◌, ◌==◌, not, if◌then◌else◌, List, [], ◌∷◌, ◌++◌, Some, None, filter, length, map, slice_get, option_map}
use Rattle.std.specs.declared.option.Option.{Option}
use Rattle.std.specs.Option.{option_map_or}
use Rattle.std.specs.List.{last_or}
use Rattle.sg_facts.specs.sg_base.declared.call.Call.{Call}
use Rattle.sg_facts.specs.declared.entry.Entry.{Entry}
use Rattle.sg_facts.specs.sg_base.Lists.{Each}
use Rattle.sg_facts.specs.Facts.{Facts, fun_at}
use Rattle.sg_facts.specs.Interface.{Declared}
use Rattle.sg_facts.specs.Legal.{Table, answer}
use Rattle.sg_facts.specs.Object.{object_of}
use Rattle.sg_clients.specs.sg_hist.declared.ended.End.{End}
use Rattle.sg_clients.specs.sg_hist.declared.ended.End.TheVariants.{Done, Blocked}
use Rattle.sg_clients.specs.sg_hist.Clients.{calls_of}
use Rattle.sg_script.specs.declared.script.Script.{Script}
use Rattle.sg_script.specs.declared.script.ScriptCall.{ScriptCall}
use Rattle.sg_plain.specs.Script.{desc_among, values_of}
-- numbers from one on
pub use Rattle.std.specs.List.{range_with_len as ascending_from}

-- ---- the calls of a client

-- the calls of a client's part
abbrev pub part_of : {C : Type 0} → ℕ → List (ℕ × List C) → List C
part_of client [] = []
part_of client (c ∷ clients) = if c.0 == client then c.1 else part_of client clients

-- all its calls: for client 1 those of the setup come first
abbrev pub calls_with_setup : {C : Type 0} → List C → List (ℕ × List C) → ℕ → List C
calls_with_setup setup clients client = (if client == 1 then setup else []) ++ part_of client clients

abbrev pub script_calls : Script → ℕ → List ScriptCall
script_calls script client = calls_with_setup script.setup script.clients client

-- a call of a client with its number, where `$k` is the descriptor that a history gives to the client's k-th call
abbrev pub resolved_by : Facts → List Entry → ℕ → ℕ → ScriptCall → Call
resolved_by facts history client seq c = record {
  client = client;
  seq = seq;
  fun = c.fun;
  desc = desc_among (calls_of history client) (fun_at facts.funs c.fun).kinds c.args;
  args = values_of (calls_of history client) (fun_at facts.funs c.fun).kinds c.args;
}

-- the call that a client makes when so many of its calls are done
abbrev pub call_after : Facts → Script → List Entry → ℕ → ℕ → Option Call
call_after facts script history client done = option_map (resolved_by facts history client (done + 1)) (slice_get (script_calls script client) done)

-- ---- how clients end

-- the greatest number of a client that has a part, at least 1
abbrev pub most_client : {C : Type 0} → List (ℕ × List C) → ℕ
most_client clients = option_map_or (λ c. c.0) (last_or None clients) 1

-- the clients that have a call, ascending
abbrev pub callers : Script → List ℕ
callers script = filter (λ c. not (length (script_calls script c) == 0)) (ascending_from 1 (most_client script.clients))

-- a client is done: each of its calls is in the history; or it waits in its next call, which the service can't answer yet
abbrev pub IsEnd : Declared → Table → List Entry → Script → ℕ → End → Type 0
IsEnd i ask history script client Done = length (calls_of history client) ≡ length (script_calls script client)
IsEnd i ask history script client (Blocked call) =
    (call_after i.facts script history client (length (calls_of history client)) ≡ Some call) × (answer i ask (object_of i.facts history) call ≡ None)

-- each client with a call has its end, and no other client has one
pub record AreEnds (i : Declared) (ask : Table) (history : List Entry) (script : Script) (ends : List (ℕ × End)) : Type 0 where
  pub clients : map (λ e. e.0) ends ≡ callers script
  pub each : Each (λ e. IsEnd i ask history script e.0 e.1) ends
