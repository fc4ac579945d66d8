-- One service and a script for it, as what the play without stops is played of.
use Rattle.std.specs.Prelude.{length}
use Rattle.std.specs.Option.{option_map_or}
use Rattle.sg_facts.specs.sg_base.declared.call.Call.{Call}
use Rattle.sg_facts.specs.declared.entry.Entry.{Entry}
use Rattle.sg_facts.specs.Facts.{is_visible}
use Rattle.sg_facts.specs.Guard.{guard}
use Rattle.sg_facts.specs.Interface.{Declared}
use Rattle.sg_facts.specs.Legal.{Table}
use Rattle.sg_facts.specs.Object.{object_of}
use Rattle.sg_script.specs.declared.script.Script.{Script}
use Rattle.sg_clients.specs.sg_hist.Wakes.{wakes}
use Rattle.sg_plain.specs.Calls.{call_after, most_client, script_calls}
use Rattle.sg_plain.specs.Plain.{System, Workload}

-- the calls of a script, and the service that answers them: guard and answer are asked at the object that the history makes
abbrev pub one_service : Declared → Table → Script → System Entry Call
one_service i ask script = record {
  next = call_after i.facts script;
  guard = λ history call. guard i (object_of i.facts history) call;
  ask = λ history call. ask (object_of i.facts history) call;
  visible = λ call. is_visible i.facts call.fun;
  entry = λ call reply. record { call = call; reply = reply };
  wakes = λ history call reply other. wakes i.facts (object_of i.facts history).rows call reply (option_map_or (λ c. c.desc) other 0);
}

-- how many calls a script has for each client, and its schedule
abbrev pub workload_of : Script → Workload
workload_of script = record {
  calls = λ client. length (script_calls script client);
  most_client = most_client script.clients;
  setup = length script.setup;
  schedule = script.schedule;
}
