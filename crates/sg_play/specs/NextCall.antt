-- The next call of a client.
use Rattle.std.specs.Prelude.{◌≡◌, ◌+◌, ◌<◌, ◌^◌, true, List, Some, length}
use Rattle.sg_facts.specs.sg_base.declared.call.Call.{Call}
use Rattle.sg_facts.specs.declared.entry.Entry.{Entry}
use Rattle.sg_facts.specs.Facts.{Facts, fun_at}
use Rattle.sg_facts.specs.Interface.{Declared, declares}
use Rattle.sg_facts.specs.Kinds.{AreWords, FitsKinds}
use Rattle.sg_plain.specs.sg_hist.Clients.{calls_of}
use Rattle.sg_plain.specs.Calls.{call_after}
use Rattle.sg_plain.specs.Script.{desc_among, values_of}
use Rattle.sg_plain.specs.sg_script.declared.script.Script.{Script}
use Rattle.sg_plain.specs.sg_script.declared.script.ScriptCall.{ScriptCall}
use Rattle.sg_facts.specs.declared.next_call.NextCall.{NextCall}

-- a call is the next of its client, which has these entries so far: in every history with just these of the client it is the script's
-- next, and it may be offered
pub record IsNextCall (i : Declared) (script : Script) (own : List Entry) (call : Call) : Type 0 where
  pub next : (history : List Entry) → calls_of history call.client ≡ own → call_after i.facts script history call.client (length own) ≡ Some call
  pub numbered : length own + 1 < 2 ^ 32
  pub declared : declares i call.fun ≡ true
  pub fits : FitsKinds i.facts call
  pub words : AreWords call.args

-- what a client says of a call that a script gives it, where it has these entries so far
pub record IsResolved (facts : Facts) (own : List Entry) (written : ScriptCall) (next : NextCall) : Type 0 where
  pub fun : next.fun ≡ written.fun
  pub desc : next.desc ≡ desc_among own (fun_at facts.funs written.fun).kinds written.args
  pub args : next.args ≡ values_of own (fun_at facts.funs written.fun).kinds written.args
