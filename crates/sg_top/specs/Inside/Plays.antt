-- Services that are played, runs of scripts that may be played, and what is said of a history.
use Rattle.std.specs.Prelude.{ℕ, ◌≡◌, ◌≤◌, List, length}
use Rattle.std.specs.List.{Contains}
use Rattle.sg_multi.specs.sg_facts.Facts.{Facts}
use Rattle.sg_edge.specs.Stops.{AscendsAbove}
use Rattle.sg_multi.specs.sg_facts.Interface.{Declared}
use Rattle.sg_multi.specs.sg_facts.Limits.{most_script_calls}
use Rattle.sg_multi.specs.sg_facts.sg_base.Lists.{Each}
use Rattle.sg_multi.specs.sg_facts.declared.entry.Entry.{Entry}
use Rattle.sg_judge.specs.sg_input.sg_script.declared.script.Script.{Script}
use Rattle.sg_load.specs.sg_plain.Playing.Playable.{IsPlayable}
use Rattle.sg_verify.specs.sg_report.sg_hist.Clients.{MayBeMade}
use Rattle.sg_verify.specs.sg_report.sg_hist.declared.ended.Ended.{Ended}
use Rattle.sg_explore.specs.sg_shared.Runs.{IsRunOf}
use Rattle.sg_load.specs.Services.{played_services}
use Rattle.sg_load.specs.sg_plain.Answering.{Answering}
use Rattle.sg_multi.specs.Serving.{IsOfServed, answering_at}
use Rattle.sg_multi.specs.declared.served.Served.{Served}
use Rattle.sg_top.specs.Answer.{services}
use Rattle.sg_top.specs.Headline.{IsServedBy}
use Rattle.sg_verify.specs.Verdicts.{IsVerdictOf}
use Rattle.sg_verify.specs.declared.verdict.Verdict.{Verdict}

-- facts are those of one of the services that are played
abbrev pub IsPlayed : Facts → Type 0
IsPlayed facts = Contains services facts

-- a run of some script that may be played
abbrev pub IsPlayOf : Declared → Answering → Ended → Type 0
IsPlayOf i service ended = (script : Script) × IsPlayable i script × IsRunOf i service script ended

-- this is said of a history, by what a service answers
pub record IsVerdictBy (i : Declared) (service : Answering) (history : List Entry) (said : Verdict) : Type 0 where
  pub is : IsVerdictOf i service.ask history said

-- a script may be played under an interface, on this service
abbrev pub MayBePlayed : Declared → Answering → Script → Type 0
MayBePlayed i service script = (i.facts ≡ service.facts) × IsPlayable i script × AscendsAbove 0 script.stops

-- a history may be judged under an interface, by this service
abbrev pub MayBeJudged : Declared → Answering → List Entry → Type 0
MayBeJudged i service history = (i.facts ≡ service.facts) × Each (λ e. MayBeMade i e.call) history × (length history ≤ most_script_calls)

-- ---- the service of an interface

-- the text of an interface is of this service
pub record IsServedAs (text : List ℕ) (i : Declared) (served : Served) : Type 0 where
  pub of : IsOfServed i served
  pub answers : IsServedBy played_services text (answering_at served)

-- a script may be played under an interface of this service
pub record MayBePlayedOn (i : Declared) (served : Served) (script : Script) : Type 0 where
  pub of : IsOfServed i served
  pub playable : IsPlayable i script
  pub stops : AscendsAbove 0 script.stops

-- a run of some script that may be played under an interface of this service
pub record IsPlayedOn (i : Declared) (served : Served) (ended : Ended) : Type 0 where
  pub of : IsOfServed i served
  pub run : IsPlayOf i (answering_at served) ended

-- a history may be judged under an interface of this service
pub record MayBeJudgedOn (i : Declared) (served : Served) (history : List Entry) : Type 0 where
  pub of : IsOfServed i served
  pub calls : Each (λ e. MayBeMade i e.call) history
  pub few : length history ≤ most_script_calls
