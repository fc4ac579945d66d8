-- An output that isn't a refusal refuses nothing: a text has one verdict, and an input is one thing.
use Rattle.std.proofs.Common.{◌≡◌, ℕ, ◌≤◌, inl, inr, Bool, false, true, List, arith, length}
use Rattle.sg_verify.specs.sg_report.sg_hist.declared.ended.Ended.{Ended}
use Rattle.sg_judge.proofs.Alone.{any_alone}
use Rattle.sg_judge.proofs.AnyInputs.{any_judged_alone}
use Rattle.sg_multi.specs.sg_facts.Interface.{Declared}
use Rattle.sg_judge.specs.sg_input.sg_script.declared.multi.MultiScript.{MultiScript}
use Rattle.sg_judge.specs.sg_input.declared.read.Read.{Read}
use Rattle.sg_judge.specs.sg_input.declared.read.Read.TheVariants.{Ready as ready, Refused as refused}
use Rattle.sg_judge.specs.Said.{IsChecked, IsRenewed, IsTabled}
use Rattle.sg_judge.proofs.OneSaid.{one_checked, one_renewed, one_tabled}
use Rattle.sg_judge.specs.sg_input.Inputs.{IsInputOf}
use Rattle.sg_judge.specs.sg_input.MultiInputs.{IsMultiInputOf}
use Rattle.sg_judge.proofs.sg_input.OneMulti.{one_multi_input}
use Rattle.sg_judge.proofs.sg_input.OneInput.{never_ready}
use Rattle.sg_judge.proofs.sg_input.OneRun.{never_ready as never_printed}
use Rattle.sg_top.specs.Headline.{IsRunOfInput}
use Rattle.sg_load.specs.Services.{played_services}
use Rattle.sg_top.specs.declared.command.Command.{Command}
use Rattle.sg_top.specs.declared.command.Shows.{Shows}
use Rattle.sg_top.specs.declared.command.Command.TheVariants.{Play, Run, Check, Compile, Upgrade, Explain, Explore, Verify, Multi, Load}
use Rattle.sg_top.specs.declared.output.Ran.{Ran}
use Rattle.sg_top.specs.declared.output.Ran.TheVariants.{Nothing, One, Several}
use Rattle.sg_top.specs.declared.status.Status.{Status}
use Rattle.sg_top.specs.declared.status.Status.TheVariants.{Refused}
use Rattle.sg_top.specs.Answer.{IsMultiOutput, IsOutput, IsRefusal, has_input, judging, most_bytes, report_shown, services, IsPlayOutput}
use Rattle.sg_top.specs.Inside.Pieces.{IsRefusedAs}

-- a text isn't accepted and refused
not_both : (text line output : List ℕ) → IsChecked services text (ready output) → IsChecked services text (refused line) → ⊥
not_both text line output good bad =
    let same : ◌≡◌ {A = Read (List ℕ)} (ready output) (refused line) = one_checked services text (ready output) (refused line) good bad in absurd cc

-- a text that has tables isn't refused
not_untabled : (text line output : List ℕ) → IsTabled services text (ready output) → IsTabled services text (refused line) → ⊥
not_untabled text line output good bad =
    let same : ◌≡◌ {A = Read (List ℕ)} (ready output) (refused line) = one_tabled services text (ready output) (refused line) good bad in absurd cc

-- a text that is upgraded isn't refused
not_unupgraded : (text line output : List ℕ) → IsRenewed services text (ready output) → IsRenewed services text (refused line) → ⊥
not_unupgraded text line output good bad =
    let same : ◌≡◌ {A = Read (List ℕ)} (ready output) (refused line) = one_renewed services text (ready output) (refused line) good bad in absurd cc

-- an input that is played isn't refused
not_unplayed : (bytes line output : List ℕ) (in_threads : Bool) (shows : Shows) (ended : Ended) → IsRunOfInput played_services bytes in_threads shows ended output → IsInputOf judging bytes (refused line) → ⊥
not_unplayed bytes line output in_threads shows ended run bad = never_ready judging (any_judged_alone services) bytes line run.i run.script bad run.ready

played_alone : (bytes : List ℕ) (in_threads : Bool) (shows : Shows) (ran : Ran) (status : Status) (output line : List ℕ) → (status ≡ Refused → ⊥)
    → IsPlayOutput bytes in_threads shows ran status output → IsInputOf judging bytes (refused line) → ⊥
played_alone bytes in_threads shows Nothing status output line good is bad = good is.0
played_alone bytes in_threads shows (One e) status output line good is bad = not_unplayed bytes line output in_threads shows e is.1 bad
played_alone bytes in_threads shows (Several came) status output line good is bad = is

-- an input that is played over several services isn't refused
multi_alone : (bytes : List ℕ) (with_trace : Bool) (ran : Ran) (status : Status) (output line : List ℕ) → (status ≡ Refused → ⊥)
    → IsMultiOutput bytes with_trace ran status output → IsMultiInputOf judging bytes (refused line) → ⊥
multi_alone bytes with_trace Nothing status output line good is bad = good is.0
multi_alone bytes with_trace (One e) status output line good is bad = is
multi_alone bytes with_trace (Several came) status output line good is bad =
    let same : ◌≡◌ {A = Read (List Declared × MultiScript)} (refused line) (ready (is.1.interfaces, is.1.script)) =
    one_multi_input judging (any_judged_alone services) bytes (refused line) (ready (is.1.interfaces, is.1.script)) bad is.1.ready in
    absurd cc

good_alone : (command : Command) (bytes : List ℕ) (ran : Ran) (status : Status) (output line : List ℕ) → (status ≡ Refused → ⊥)
    → IsOutput command bytes ran status output → IsRefusedAs command bytes line → ⊥
good_alone (Play shows) bytes ran status output line good is bad = played_alone bytes false shows ran status output line good is bad
good_alone (Run trace) bytes ran status output line good is bad = played_alone bytes true (report_shown trace) ran status output line good is bad
good_alone (Multi trace) bytes ran status output line good is bad = multi_alone bytes trace ran status output line good is bad
good_alone Check bytes ran status output line good (none, inl accepts) bad = not_both bytes line output accepts.1 bad
good_alone Compile bytes ran status output line good (none, inl accepts) bad = not_untabled bytes line output accepts.1 bad
good_alone Upgrade bytes ran status output line good (none, inl accepts) bad = not_unupgraded bytes line output accepts.1 bad
good_alone Explain bytes ran status output line good (none, inl explained) bad = any_alone services bytes output line explained.1 bad
good_alone (Explore most) bytes ran status output line good (none, inl explored) bad = never_ready judging (any_judged_alone services) bytes line explored.i explored.script bad explored.ready
good_alone Verify bytes ran status output line good (none, inl judged) bad = never_printed judging (any_judged_alone services) bytes line judged.i judged.history bad judged.ready
good_alone Check bytes ran status output line good (none, inr other) bad = good other.0
good_alone Compile bytes ran status output line good (none, inr other) bad = good other.0
good_alone Upgrade bytes ran status output line good (none, inr other) bad = good other.0
good_alone Explain bytes ran status output line good (none, inr other) bad = good other.0
good_alone (Explore most) bytes ran status output line good (none, inr other) bad = good other.0
good_alone Verify bytes ran status output line good (none, inr other) bad = good other.0
good_alone (Load service number) bytes ran status output line good is bad = bad

-- where an output for bytes doesn't refuse them, they aren't refused
pub never_refused : (command : Command) (bytes : List ℕ) (ran : Ran) (status : Status) (output line : List ℕ) → (status ≡ Refused → ⊥) → length bytes ≤ most_bytes command
    → IsOutput command bytes ran status output → IsRefusal command bytes line → ⊥
never_refused command bytes ran status output line good short is (inl (few, bad)) = good_alone command bytes ran status output line good is bad
never_refused command bytes ran status output line good short is (inr (has, long, bad)) = absurd (omega (arith, short, long))

-- a command without an input refuses nothing
pub refuses_nothing : (command : Command) (bytes line : List ℕ) → has_input command ≡ false → IsRefusal command bytes line → ⊥
refuses_nothing (Play shows) bytes line without is = cc without
refuses_nothing (Run trace) bytes line without is = cc without
refuses_nothing (Multi trace) bytes line without is = cc without
refuses_nothing Check bytes line without is = cc without
refuses_nothing Compile bytes line without is = cc without
refuses_nothing Upgrade bytes line without is = cc without
refuses_nothing Explain bytes line without is = cc without
refuses_nothing (Explore most) bytes line without is = cc without
refuses_nothing Verify bytes line without is = cc without
refuses_nothing (Load service number) bytes line without (inl is) = is.1
refuses_nothing (Load service number) bytes line without (inr is) = cc is.0
