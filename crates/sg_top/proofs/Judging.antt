-- What is said of a history that an input prints is what the program may answer.
use Rattle.std.proofs.Common.{◌≡◌, ℕ, List, inl, inr, ◌∙◌, ap, sym, subst}
use Rattle.sg_multi.specs.sg_facts.Interface.{Declared}
use Rattle.sg_multi.specs.sg_facts.declared.entry.Entry.{Entry}
use Rattle.sg_multi.specs.sg_facts.sg_base.Room.{Roomy}
use Rattle.sg_judge.specs.sg_input.declared.read.Read.{Read}
use Rattle.sg_judge.specs.sg_input.declared.read.Read.TheVariants.{Ready, Refused}
use Rattle.sg_judge.specs.sg_input.Inputs.{IsRunInputOf}
use Rattle.sg_judge.specs.Said.{IsOwnText}
use Rattle.sg_judge.specs.sg_own.sg_describe.DescribedText.{described_of_text}
use Rattle.sg_judge.proofs.AnyInputs.{any_judged_alone}
use Rattle.sg_verify.specs.Lines.{verdict_line_of}
use Rattle.sg_verify.specs.Verdicts.{IsVerdictOf}
use Rattle.sg_verify.specs.declared.verdict.Verdict.{Verdict}
use Rattle.sg_judge.proofs.sg_input.OneCut.{one_cut}
use Rattle.sg_judge.proofs.sg_input.OneInput.{one_tree}
use Rattle.sg_judge.proofs.sg_input.OneRun.{never_ready, one_ready}
use Rattle.sg_verify.proofs.Verdicts.{one_said as one_verdict}
use Rattle.sg_multi.specs.Serving.{answering_at, described_answering}
use Rattle.sg_top.proofs.EachKind.{same_service}
use Rattle.sg_load.specs.Services.{played_services}
use Rattle.sg_load.specs.sg_plain.Answering.{Answering}
use Rattle.sg_top.specs.Answer.{IsJudgedAs, IsOutput, judging, services}
use Rattle.sg_top.specs.Headline.{IsServedBy}
use Rattle.sg_top.specs.Inside.Pieces.{IsIllegal, IsVerified, verdict_status}
use Rattle.sg_top.specs.Inside.Plays.{MayBeJudgedOn}
use Rattle.sg_top.specs.Inside.Ready.{IsReadyRun, IsServedRun}
use Rattle.sg_top.specs.declared.command.Command.{Command}
use Rattle.sg_top.specs.declared.command.Command.TheVariants.{Verify}
use Rattle.sg_top.specs.declared.output.Ran.{Ran}
use Rattle.sg_top.specs.declared.ready.ReadyRun.{ReadyRun}
use Rattle.sg_multi.specs.declared.served.Served.{Served}
use Rattle.sg_top.specs.declared.status.Status.{Status}
use Rattle.sg_top.specs.declared.status.Status.TheVariants.{Illegal}

-- ---- one thing is said of an input

-- the text of an interface is of one service, by the facts of the interface
one_service : (text text' : List ℕ) (s s' : Answering) → text ≡ text' → s.facts ≡ s'.facts → IsServedBy played_services text s → IsServedBy played_services text' s' → s ≡ s'
one_service text text' s s' same facts (inl (none, played)) (inl (none', played')) = same_service s s' played played' facts
one_service text text' s s' same facts (inl (none, played)) (inr (tree, own, is)) = absurd (none tree (subst (λ t. IsOwnText t tree) (sym same) own))
one_service text text' s s' same facts (inr (tree, own, is)) (inl (none, played)) = absurd (none tree (subst (λ t. IsOwnText t tree) same own))
one_service text text' s s' same facts (inr (tree, own, is)) (inr (tree', own', is')) =
    let moved : IsOwnText text tree' = subst (λ t. IsOwnText t tree') (sym same) own' in
    is ∙ ap (λ t. described_answering (described_of_text t)) (one_tree text tree tree' own.parses moved.parses) ∙ sym is'

one_said : (bytes : List ℕ) (status status' : Status) (output output' : List ℕ) (a : IsJudgedAs bytes status output) (b : IsJudgedAs bytes status' output') → a.said ≡ b.said
one_said bytes status status' output output' a b =
    let both = one_ready judging (any_judged_alone services) bytes a.i b.i a.history b.history a.ready b.ready in
    let texts = one_cut bytes a.ready.interface a.ready.second b.ready.interface b.ready.second a.ready.texts.cut b.ready.texts.cut in
    let served = one_service a.ready.interface b.ready.interface a.service b.service texts.0
    (a.its ∙ ap (λ (i : Declared). i.facts) both.0 ∙ sym b.its) a.is_served b.is_served in
    one_verdict b.i b.service.ask b.history a.said b.said
    (subst (λ h. IsVerdictOf b.i b.service.ask h a.said) both.1
    (subst (λ i. IsVerdictOf i b.service.ask a.history a.said) both.0
    (subst (λ (s : Answering). IsVerdictOf a.i s.ask a.history a.said) served a.is))) b.is

verified_so : (bytes : List ℕ) (wanted : Status) (output line : List ℕ) → IsVerified bytes wanted output → IsJudgedAs bytes Illegal line → wanted ≡ Illegal
verified_so bytes wanted output line (inl judged) bad = judged.answered ∙ ap verdict_status (one_said bytes wanted Illegal output line judged bad) ∙ sym bad.answered
verified_so bytes wanted output line (inr refused) bad = absurd (never_ready judging (any_judged_alone services) bytes output bad.i bad.history refused.1 bad.ready)

-- where a history isn't legal, an output for its bytes says so
pub judged_so : (command : Command) (bytes : List ℕ) (ran : Ran) (wanted : Status) (output line : List ℕ)
    → IsOutput command bytes ran wanted output → IsIllegal command bytes line → wanted ≡ Illegal
judged_so command bytes ran wanted output line is (verifies, short, bad) =
    let verified : IsOutput Verify bytes ran wanted output = subst (λ c. IsOutput c bytes ran wanted output) verifies is in
    verified_so bytes wanted output line verified.1 bad

-- ---- what is made of an input

-- an input that is ready with an interface of this service and a history
abbrev run_with : Served → Declared → Roomy Entry → ReadyRun
run_with served i history = record { served = served; accepted = i; history = history }

module _ (bytes : List ℕ) (served : Served) (i : Declared) (history : Roomy Entry) (made : Read ReadyRun) (is : made ≡ Ready (run_with served i history)) (all : IsServedRun bytes made) where
  its_ready : IsReadyRun bytes (run_with served i history)
  its_ready = subst (IsServedRun bytes) is all

  -- its calls may be judged, by tables whose interface is its own
  pub may_judge : (j : Declared) → j ≡ i → MayBeJudgedOn j served history.items
  may_judge j same = subst (λ (k : Declared). MayBeJudgedOn k served history.items) (sym same) (record { of = its_ready.served.of; calls = its_ready.may.0; few = its_ready.may.1 })

  -- what is said of it
  pub judged_output : (said : Verdict) (status : Status) (written : List ℕ) → IsVerdictOf i (answering_at served).ask history.items said
      → status ≡ verdict_status said → written ≡ verdict_line_of i.facts history.items said → IsVerified bytes status written
  judged_output said status written verdict its_status line = inl (record {
    i = i;
    history = history.items;
    ready = its_ready.ready;
    service = answering_at served;
    is_served = its_ready.served.answers;
    its = sym its_ready.served.of.its;
    said = said;
    is = verdict;
    answered = its_status;
    line = line;
  })

-- the line of one that is refused, where the line is shown under another name
pub refused_run : (bytes line written : List ℕ) (made : Read ReadyRun) → made ≡ Refused line → written ≡ line → IsServedRun bytes made → IsRunInputOf judging bytes (Refused written)
refused_run bytes line written made is same all = subst (λ l. IsRunInputOf judging bytes (Refused l)) (sym same) (subst (IsServedRun bytes) is all)
