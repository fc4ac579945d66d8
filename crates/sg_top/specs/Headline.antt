-- What is promised of a run of an input, over one service or over several, and of a load.
use Rattle.std.specs.Prelude.{ℕ, ◌≡◌, ◌⊎◌, Bool, true, false, List, [], ◌∷◌, ◌++◌, map}
use Rattle.std.specs.List.{Contains}
use Rattle.sg_cost.specs.Costs.{AreFew, costs_at}
use Rattle.sg_cost.specs.Lines.{cost_text_of}
use Rattle.sg_draw.specs.Pictures.{AreColumnsOf, IsPictureOf}
use Rattle.sg_multi.specs.sg_facts.Interface.{Declared}
use Rattle.sg_multi.specs.sg_facts.Tables.{AreTables}
use Rattle.sg_multi.specs.sg_facts.Trace.{Boot, run_of}
use Rattle.sg_multi.specs.sg_facts.declared.tables.WalkLine.{WalkLine}
use Rattle.sg_verify.specs.sg_report.sg_hist.Recovered.{Stubs}
use Rattle.sg_verify.specs.sg_report.sg_hist.declared.ended.Ended.{Ended}
use Rattle.sg_judge.specs.sg_input.Inputs.{IsReady}
use Rattle.sg_judge.specs.sg_input.sg_parse.declared.tree.Tree.{Tree}
use Rattle.sg_judge.specs.AnyInputs.{any_judging}
use Rattle.sg_judge.specs.Said.{IsOfServices, IsOwnText}
use Rattle.sg_judge.specs.sg_own.sg_describe.DescribedText.{described_of_text}
use Rattle.sg_load.specs.Generated.{generated}
use Rattle.sg_load.specs.Services.{answering, facts_by, standard}
use Rattle.sg_load.specs.declared.kind.ServiceKind.{ServiceKind}
use Rattle.sg_verify.specs.sg_report.Report.{load_line_of, report_of}
use Rattle.sg_judge.specs.sg_input.MultiInputs.{IsMultiReady}
use Rattle.sg_judge.specs.sg_input.sg_script.declared.multi.MultiScript.{MultiScript}
use Rattle.sg_judge.specs.sg_input.sg_script.declared.script.Script.{Script}
use Rattle.sg_multi.specs.Played.{IsMultiPlayed, MultiCame}
use Rattle.sg_multi.specs.Report.{multi_text_of}
use Rattle.sg_multi.specs.Serving.{described_answering}
use Rattle.sg_explore.specs.sg_shared.Runs.{IsRunOf}
use Rattle.sg_load.specs.sg_plain.Answering.{Answering}
use Rattle.sg_explore.specs.sg_shared.sg_sim.Played.{FollowsSchedule}
use Rattle.sg_top.specs.declared.command.Shows.{Shows}
use Rattle.sg_top.specs.declared.command.Shows.TheVariants.{Report, Trace, Costs, Picture, Columns}

-- ---- what is printed

-- the replayed calls of each boot of a run are few, by the walks of the interface's tables
abbrev pub HasFewReplays : Declared → Ended → Type 0
HasFewReplays i ended = (walks : List WalkLine) × AreTables i walks
    × ((before : List Boot) (b : Boot) (later : List Boot) → (run_of ended.trace).boots ≡ before ++ b ∷ later → AreFew i walks ended.history.items before b later)

-- this is printed of a run: its report, with what was done to the service or without; what its calls could cost after one more stop; or a
-- picture of what was done, as a document or in the columns of a terminal
abbrev pub IsShown : Shows → Declared → Ended → List ℕ → Type 0
IsShown Report i ended written = written ≡ report_of i.facts ended false
IsShown Trace i ended written = written ≡ report_of i.facts ended true
IsShown Picture i ended written = IsPictureOf i.facts ended written
IsShown Columns i ended written = AreColumnsOf i.facts ended written
IsShown Costs i ended written =
    (walks : List WalkLine) × AreTables i walks × (written ≡ cost_text_of i.facts (costs_at i walks ended.history.items (run_of ended.trace)))

-- ---- services

-- the text of an interface is of this service: it is one of these, or the one that the text describes
abbrev pub IsServedBy : List Answering → List ℕ → Answering → Type 0
IsServedBy services text service =
    (IsOfServices text × Contains services service)
    ⊎ ((tree : Tree) × IsOwnText text tree × (service ≡ described_answering (described_of_text tree)))

-- ---- inputs

-- an input is an interface of one of these services, or of the one that it describes, and a script for it, and this is a run of it, in threads or
-- in one thread, with its output
pub record IsRunOfInput (services : List Answering) (bytes : List ℕ) (in_threads : Bool) (shows : Shows) (ended : Ended) (written : List ℕ) : Type 0 where
  pub i : Declared
  pub script : Script
  pub ready : IsReady (any_judging (map (λ s. s.facts) services)) bytes i script
  pub service : Answering
  pub is_served : IsServedBy services ready.interface service
  pub its : service.facts ≡ i.facts
  pub run : IsRunOf i service script ended
  -- in one thread the turns are those of the play without stops until the service stops
  pub schedule : in_threads ≡ false → FollowsSchedule i service.ask script (run_of ended.trace) ended.history.items
  -- no boot needs more replayed calls than the walks of what was live when it began have
  pub few : HasFewReplays i ended
  -- the bytes written are what is to be printed of the play
  pub output : IsShown shows i ended written

-- this is a run of the script that is generated from a number for a service, under its standard interface, with its output
pub record IsRunOfLoad (kind : ServiceKind) (number : ℕ) (ended : Ended) (written : List ℕ) : Type 0 where
  pub run : IsRunOf (standard kind) (answering kind) (generated kind number) ended
  -- the turns are those of the play without stops until the service stops
  pub schedule : FollowsSchedule (standard kind) (answering kind).ask (generated kind number) (run_of ended.trace) ended.history.items
  -- no boot needs more replayed calls than the walks of what was live when it began have
  pub few : HasFewReplays (standard kind) ended
  -- the bytes written are the line of the load
  pub output : written ≡ load_line_of (facts_by kind).name number ended

-- ---- several services

-- by this a run under an interface is judged: by what the service of its text answers, and by the walks of the interface's tables
pub record IsMember (services : List Answering) (text : List ℕ) (i : Declared) (stubs : Stubs) : Type 0 where
  pub service : Answering
  pub is_served : IsServedBy services text service
  pub its : service.facts ≡ i.facts
  pub walks : List WalkLine
  pub tables : AreTables i walks
  pub is : stubs ≡ record { interface = i; ask = service.ask; parts = service.parts; walks = walks }

-- so are these, text by text
abbrev pub AreMembersBy : List Answering → List (List ℕ) → List Declared → List Stubs → Type 0
AreMembersBy services [] [] [] = Unit {0}
AreMembersBy services (text ∷ texts) (i ∷ interfaces) (s ∷ members) = IsMember services text i s × AreMembersBy services texts interfaces members
AreMembersBy services _ _ _ = ⊥

-- an input is interfaces, each of one of these services or of the one that it describes, no two of one service, and a script for them, and this is
-- a play of it over them, with its output
pub record IsPlayOfMembers (services : List Answering) (bytes : List ℕ) (with_trace : Bool) (came : MultiCame) (written : List ℕ) : Type 0 where
  pub interfaces : List Declared
  pub script : MultiScript
  pub ready : IsMultiReady (any_judging (map (λ s. s.facts) services)) bytes interfaces script
  pub members : List Stubs
  pub are : AreMembersBy services ready.texts interfaces members
  pub play : IsMultiPlayed members script came
  -- the bytes written are what is to be printed of the play
  pub output : written ≡ multi_text_of (map (λ i. i.facts) interfaces) play.merged came with_trace
