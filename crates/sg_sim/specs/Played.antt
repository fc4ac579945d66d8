-- What a play promises of its run, whatever its stops and whoever took its turns, and what it promises where its turns were those of the
-- play without stops.
use Rattle.std.specs.Prelude.{ℕ, ◌≡◌, ◌==◌, true, List}
use Rattle.std.specs.List.{list_all}
use Rattle.sg_facts.specs.Interface.{Declared}
use Rattle.sg_facts.specs.Legal.{IsLegal, Table}
use Rattle.sg_facts.specs.Trace.{Run, run_of}
use Rattle.sg_facts.specs.declared.entry.Entry.{Entry}
use Rattle.sg_play.specs.sg_hist.declared.ended.Ended.{Ended}
use Rattle.sg_play.specs.sg_hist.Recovered.{Stubs, struck_in}
use Rattle.sg_play.specs.sg_hist.Ending.{HasRecovered}
use Rattle.sg_play.specs.sg_plain.Calls.{AreEnds, callers}
use Rattle.sg_play.specs.sg_plain.OneService.{one_service, workload_of}
use Rattle.sg_play.specs.sg_plain.Plain.{IsPlay, first_stage}
use Rattle.sg_play.specs.sg_plain.Promises.{AreScriptsCalls, AreWoken, FollowsPlain, IsSetupFirst}
use Rattle.sg_play.specs.Asked.{AsksPlain, asked_from}
use Rattle.sg_play.specs.sg_script.declared.script.Script.{Script}
use Rattle.sg_play.specs.sg_clients.WorldView.{WorldView}

-- the history and the trace of an end are those of a world
abbrev pub IsOfWorld : WorldView → Ended → Type 0
IsOfWorld w ended = (ended.history.items ≡ w.history) × (run_of ended.trace ≡ w.run)

-- the play of the script without stops ends; up to the last visible entry of the first boot the history is its, and wholly so where
-- nothing stopped, or where client 1 alone has calls; and what the first boot was asked is what it asks, in its order
pub record FollowsSchedule (i : Declared) (ask : Table) (script : Script) (run : Run) (history : List Entry) : Type 0 where
  pub plain : List Entry
  pub is_plain : IsPlay (one_service i ask script) (workload_of script) plain
  pub follows : FollowsPlain i.facts run history plain
  pub asks : AsksPlain run (asked_from (one_service i ask script) (workload_of script) (first_stage (workload_of script)) is_plain.turns)
  pub alone : list_all (λ c. c == 1) (callers script) ≡ true → history ≡ plain

-- a play came to this end, where its stops' test is told of the points asked, of those at which the service stopped, and of a plan
pub record IsPlayed (s : Stubs) (test : ℕ → List ℕ → List ℕ → Type 0) (script : Script) (plan : List ℕ) (ended : Ended) : Type 0 where
  -- the replies stand in a history that the service could give with no fault at all
  pub legal : IsLegal s.interface s.ask ended.history.items
  -- the history's entries are the script's calls, each once and in its client's order, and those of the setup come first
  pub calls : AreScriptsCalls s.interface.facts script ended.history.items
  -- the setup comes first: its calls are done, and no item of another client's turn stands before one of theirs
  pub setup : IsSetupFirst script ended.history.items (run_of ended.trace)
  -- every reboot, walk and load is as it has to be, and each descriptor is in its tracked state when a call reaches the service
  pub recovered : HasRecovered s ended.history.items (run_of ended.trace) ended.ends
  -- the service stopped where its stops say
  pub stops : test (run_of ended.trace).points (struck_in (run_of ended.trace)) plan
  -- each client with a call is done, or waits in its next call, which the service can't answer
  pub ends : AreEnds s.interface s.ask ended.history.items script ended.ends
  -- who waits is woken before it waits again
  pub woken : AreWoken s.interface.facts ended.history.items (run_of ended.trace)
