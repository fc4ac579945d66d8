-- What a play promises is what the headline says of it.
use Rattle.std.proofs.Common.{◌≡◌, ℕ, Bool, true, false, cond, List, Ok, Err, sym, subst}
use Rattle.std.specs.Result.{IfOk}
use Rattle.std.specs.declared.result.Result.{Result}
use Rattle.sg_multi.specs.sg_facts.Interface.{Declared}
use Rattle.sg_multi.specs.sg_facts.Trace.{run_of}
use Rattle.sg_verify.specs.sg_report.sg_hist.declared.ended.Ended.{Ended}
use Rattle.sg_judge.specs.sg_input.declared.read.Read.{Read}
use Rattle.sg_judge.specs.sg_input.declared.read.Read.TheVariants.{Ready, Refused}
use Rattle.sg_judge.specs.sg_input.sg_script.declared.script.Script.{Script}
use Rattle.sg_explore.specs.Explored.{IsExplored}
use Rattle.sg_explore.specs.declared.exploring.Explored.{Explored}
use Rattle.sg_explore.specs.sg_shared.sg_sim.Played.{FollowsSchedule}
use Rattle.sg_judge.specs.sg_input.Inputs.{IsInputOf}
use Rattle.sg_load.specs.Generated.{generated}
use Rattle.sg_load.specs.Services.{answering, facts_by, played_services, standard}
use Rattle.sg_load.specs.declared.kind.ServiceKind.{ServiceKind}
use Rattle.sg_load.specs.sg_plain.Playing.Playable.{IsPlayable}
use Rattle.sg_verify.specs.sg_report.Report.{load_line_of}
use Rattle.sg_multi.specs.Serving.{answering_at}
use Rattle.sg_top.proofs.Costing.{few_of_load, few_replays}
use Rattle.sg_top.proofs.Fitting.{ready_playable, ready_stops}
use Rattle.sg_top.specs.Answer.{IsExploredAs, IsOwnOutput, IsPlayOutput, ended_status, judging}
use Rattle.sg_top.specs.Inside.Plays.{IsPlayedOn, MayBePlayedOn}
use Rattle.sg_top.specs.Inside.Ready.{IsReadyInput, IsServedInput}
use Rattle.sg_top.specs.declared.command.Command.TheVariants.{Load}
use Rattle.sg_top.specs.declared.command.Shows.{Shows}
use Rattle.sg_top.specs.declared.output.Ran.{Ran}
use Rattle.sg_top.specs.declared.output.Ran.TheVariants.{Nothing, One}
use Rattle.sg_top.specs.declared.ready.ReadyInput.{ReadyInput}
use Rattle.sg_multi.specs.declared.served.Served.{Served}
use Rattle.sg_top.specs.declared.status.Status.{Status}
use Rattle.sg_top.specs.declared.status.Status.TheVariants.{Done, Waits, Refused as no_play}
use Rattle.sg_explore.specs.sg_shared.Runs.{IsRunInOrder, IsRunOf}
use Rattle.sg_top.specs.Headline.{IsRunOfInput, IsShown}

-- what a fact of an outcome makes
pub of_one : {A E : Type 0} (r : Result A E) (P Q : A → Type 0) → ((a : A) → P a → Q a) → IfOk r P → IfOk r Q
of_one (Ok a) P Q make p = make a p
of_one (Err e) P Q make p = tt

-- what two facts of an outcome make
pub of_two : {A E : Type 0} (r : Result A E) (P Q R : A → Type 0) → ((a : A) → P a → Q a → R a) → IfOk r P → IfOk r Q → IfOk r R
of_two (Ok a) P Q R make p q = make a p q
of_two (Err e) P Q R make p q = tt

-- what three facts of an outcome make
pub of_three : {A E : Type 0} (r : Result A E) (P Q R S : A → Type 0) → ((a : A) → P a → Q a → R a → S a) → IfOk r P → IfOk r Q → IfOk r R → IfOk r S
of_three (Ok a) P Q R S make p q r = make a p q r
of_three (Err e) P Q R S make p q r = tt

-- ---- inputs

-- an input that is ready with an interface of this service and a script
abbrev input_with : Served → Declared → Script → ReadyInput
input_with served i script = record { served = served; accepted = i; script = script }

module _ (bytes : List ℕ) (served : Served) (i : Declared) (script : Script) (made : Read ReadyInput) (is : made ≡ Ready (input_with served i script)) (all : IsServedInput bytes made) where
  its_ready : IsReadyInput bytes (input_with served i script)
  its_ready = subst (IsServedInput bytes) is all

  pub may_play : MayBePlayedOn i served script
  may_play = record { of = its_ready.served.of; playable = ready_playable bytes i script its_ready.ready; stops = ready_stops bytes i script its_ready.ready }

  pub was_played : (played : Ended) → IsRunOf i (answering_at served) script played → IsPlayedOn i served played
  was_played played run = record { of = its_ready.served.of; run = (script, ready_playable bytes i script its_ready.ready, run) }

  -- a run of it, with its report
  run_ready : (in_threads : Bool) (shows : Shows) (ended : Ended) (written : List ℕ) → IsRunOf i (answering_at served) script ended
      → (in_threads ≡ false → FollowsSchedule i (answering_at served).ask script (run_of ended.trace) ended.history.items)
      → IsShown shows i ended written → IsRunOfInput played_services bytes in_threads shows ended written
  run_ready in_threads shows ended written run follows shown = record {
    i = i;
    script = script;
    ready = its_ready.ready;
    service = answering_at served;
    is_served = its_ready.served.answers;
    its = sym its_ready.served.of.its;
    run = run;
    schedule = follows;
    few = few_replays i served script ended (ready_playable bytes i script its_ready.ready) its_ready.served.of run;
    output = shown;
  }

  -- what is made of it
  play_output : (in_threads : Bool) (shows : Shows) (played : Ended) (ran : Ran) (status : Status) (written : List ℕ) → IsRunOf i (answering_at served) script played
      → (in_threads ≡ false → FollowsSchedule i (answering_at served).ask script (run_of played.trace) played.history.items)
      → ran ≡ One played → status ≡ ended_status played.ends → IsShown shows i played written → IsPlayOutput bytes in_threads shows ran status written
  play_output in_threads shows played ran status written run follows it its_status text =
      subst (λ e. IsPlayOutput bytes in_threads shows e status written) (sym it) (its_status, run_ready in_threads shows played written run follows text)

  -- in one thread, and with a thread for each client
  pub output_in_order : (shows : Shows) (played : Ended) (ran : Ran) (status : Status) (written : List ℕ) → IsRunInOrder i (answering_at served) script played
      → ran ≡ One played → status ≡ ended_status played.ends → IsShown shows i played written → IsPlayOutput bytes false shows ran status written
  output_in_order shows played ran status written run = play_output false shows played ran status written run.0 (λ alone. run.1)

  pub output_in_threads : (shows : Shows) (played : Ended) (ran : Ran) (status : Status) (written : List ℕ) → IsRunOf i (answering_at served) script played
      → ran ≡ One played → status ≡ ended_status played.ends → IsShown shows i played written → IsPlayOutput bytes true shows ran status written
  output_in_threads shows played ran status written run = play_output true shows played ran status written run (λ alone. absurd (cc alone))

  -- by runs with other stops
  pub explored_output : (most : ℕ) (found : Explored) (status : Status) (written : List ℕ) → IsExplored i (answering_at served) script most found
      → status ≡ cond found.waits Waits Done → written ≡ found.text → IsExploredAs bytes most status written
  explored_output most found status written runs its_status text = record {
    i = i;
    script = script;
    ready = its_ready.ready;
    service = answering_at served;
    is_served = its_ready.served.answers;
    its = sym its_ready.served.of.its;
    found = found;
    runs = runs;
    answered = its_status;
    text = text;
  }

-- the line of one that is refused, where the line is shown under another name
pub refused_line : (bytes line written : List ℕ) (made : Read ReadyInput) → made ≡ Refused line → written ≡ line → IsServedInput bytes made → IsInputOf judging bytes (Refused written)
refused_line bytes line written made is same all = subst (λ l. IsInputOf judging bytes (Refused l)) (sym same) (subst (IsServedInput bytes) is all)

pub refused_play : (bytes line written : List ℕ) (in_threads : Bool) (shows : Shows) (ran : Ran) (status : Status) (made : Read ReadyInput) → made ≡ Refused line → written ≡ line
    → ran ≡ Nothing → status ≡ no_play → IsServedInput bytes made → IsPlayOutput bytes in_threads shows ran status written
refused_play bytes line written in_threads shows ran status made is same none refuses all =
    subst (λ r. IsPlayOutput bytes in_threads shows r status written) (sym none) (refuses, refused_line bytes line written made is same all)

-- ---- loads

-- what is made of a load
pub own_output : (kind : ServiceKind) (number : ℕ) (played : Ended) (ran : Ran) (status : Status) (written : List ℕ)
    → IsPlayable (standard kind) (generated kind number) → IsRunInOrder (standard kind) (answering kind) (generated kind number) played
    → ran ≡ One played → status ≡ ended_status played.ends → written ≡ load_line_of (facts_by kind).name number played
    → IsOwnOutput (Load kind number) ran status written
own_output kind number played ran status written playable run is its_status text =
    subst (λ e. IsOwnOutput (Load kind number) e status written) (sym is) (
      its_status,
      record { run = run.0; schedule = run.1; few = few_of_load kind (generated kind number) played playable run.0; output = text },
    )
