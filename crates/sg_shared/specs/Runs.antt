-- What a play of a script on a service promises, whichever the service is.
use Rattle.std.specs.Prelude.{List}
use Rattle.sg_facts.specs.Interface.{Declared}
use Rattle.sg_facts.specs.Legal.{IsLegal}
use Rattle.sg_facts.specs.Tables.{AreTables}
use Rattle.sg_facts.specs.Trace.{run_of}
use Rattle.sg_facts.specs.declared.tables.WalkLine.{WalkLine}
use Rattle.sg_sim.specs.sg_plain.Answering.{Answering}
use Rattle.sg_sim.specs.sg_plain.Calls.{AreEnds}
use Rattle.sg_sim.specs.sg_plain.Promises.{AreScriptsCalls, AreScriptsStops, AreWoken, IsSetupFirst}
use Rattle.sg_sim.specs.sg_plain.sg_hist.Ending.{HasRecovered}
use Rattle.sg_sim.specs.sg_plain.sg_hist.declared.ended.Ended.{Ended}
use Rattle.sg_sim.specs.sg_plain.sg_script.declared.script.Script.{Script}
use Rattle.sg_sim.specs.Played.{FollowsSchedule}

-- a play of a script on a service, under an interface of it, came to this end, with its clients' turns in any order
pub record IsRunOf (i : Declared) (service : Answering) (script : Script) (ended : Ended) : Type 0 where
  -- the replies stand in a history that the service could give with no fault at all
  pub legal : IsLegal i service.ask ended.history.items
  -- the history's entries are the script's calls, each once and in its client's order, and those of the setup come first
  pub calls : AreScriptsCalls i.facts script ended.history.items
  -- the setup comes first: its calls are done, and no item of another client's turn stands before one of theirs
  pub setup : IsSetupFirst script ended.history.items (run_of ended.trace)
  -- every reboot, walk and load is as it has to be, and each descriptor is in its tracked state when a call reaches the service; the
  -- walks are the least ones
  pub recovered : (walks : List WalkLine) × AreTables i walks × HasRecovered (record { interface = i; ask = service.ask; parts = service.parts; walks = walks }) ended.history.items (run_of ended.trace) ended.ends
  -- the service stopped at the script's points, as far as points were asked, and at no others
  pub stops : AreScriptsStops script (run_of ended.trace)
  -- each client with a call is done, or waits in its next call, which the service can't answer
  pub ends : AreEnds i service.ask ended.history.items script ended.ends
  -- who waits is woken before it waits again
  pub woken : AreWoken i.facts ended.history.items (run_of ended.trace)

-- a play in one thread came to this end: a run whose turns are those of the play without stops until the service stops
abbrev pub IsRunInOrder : Declared → Answering → Script → Ended → Type 0
IsRunInOrder i service script ended = IsRunOf i service script ended × FollowsSchedule i service.ask script (run_of ended.trace) ended.history.items
