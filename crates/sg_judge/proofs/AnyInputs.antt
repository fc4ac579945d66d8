-- An input is one thing, whatever the versions of its interfaces, and is what its last text is under these.
use Rattle.std.proofs.Common.{◌≡◌, inl, inr, ℕ, List, None, Some, IfOk, refl, sym, ◌∙◌, ap, subst}
use Rattle.std.specs.Prelude.{◌↔◌, Ok, Err, codes}
use Rattle.std.specs.declared.option.Option.{Option}
use Rattle.std.specs.declared.result.Result.{Result}
use Rattle.sg_explain.specs.sg_facts.Facts.{Facts}
use Rattle.sg_explain.specs.sg_facts.Interface.{Declared}
use Rattle.sg_explain.specs.sg_facts.declared.entry.Entry.{Entry}
use Rattle.sg_explain.specs.sg_facts.sg_base.Room.{Roomy}
use Rattle.sg_explain.specs.sg_facts.sg_base.declared.memory.NoMemory.{NoMemory}
use Rattle.sg_explain.specs.sg_input.Inputs.{AreTexts, IsHistoryOf, IsInputOf, IsRefusedText, IsRunInputOf, IsSameRun, IsScriptOf, most_run, most_script}
use Rattle.sg_explain.specs.sg_input.Lines.{refused_line}
use Rattle.sg_explain.specs.sg_input.MultiInputs.{AreMultiTexts, IsMultiInputOf, IsMultiScriptOf}
use Rattle.sg_explain.specs.sg_input.Verdicts.{refusal_name}
use Rattle.sg_explain.specs.sg_input.declared.read.Read.{Read}
use Rattle.sg_explain.specs.sg_input.declared.read.Read.TheVariants.{Ready, Refused}
use Rattle.sg_explain.specs.sg_input.sg_script.declared.multi.MultiScript.{MultiScript}
use Rattle.sg_explain.specs.sg_input.sg_script.declared.script.Script.{Script}
use Rattle.sg_explain.proofs.sg_input.OneInput.{IsOneJudging, judged_alone, one_input, one_interface as one_of_services, one_tree}
use Rattle.sg_explain.proofs.sg_input.OneMulti.{one_multi_input}
use Rattle.sg_explain.proofs.sg_input.OneRun.{one_input as one_run_input}
use Rattle.sg_own.specs.Faults.{IsOwnAccepted, IsOwnFault}
use Rattle.sg_own.specs.sg_described.declared.description.Description.{Description}
use Rattle.sg_own.proofs.One.{not_both, one_fault, one_interface}
use Rattle.sg_judge.specs.AnyInputs.{IsAcceptedAs, IsAnyFlaw, IsAnyInputOf, IsAnyInterface, IsAnyMultiInputOf, IsAnyRunInputOf, IsMultiReadyAs, IsReadyAs, IsRunReadyAs, any_judging, interfaces_in, interfaces_of, members_in}
use Rattle.sg_judge.specs.Inside.Examined.{AreAnyMembers}
use Rattle.sg_judge.specs.Names.{own_name}
use Rattle.sg_judge.specs.Said.{IsChecked}
use Rattle.sg_judge.specs.declared.interface.AnyInterface.{AnyInterface}

-- ---- how texts are judged

module _ (services : List Facts) where
  one_any : (text : List ℕ) (i j : Declared) → IsAnyInterface services text i → IsAnyInterface services text j → i ≡ j
  one_any text i j (inl (tree, own, is)) (inl (tree', own', is')) =
      one_interface tree i j is (subst (λ t. IsOwnAccepted t j) (one_tree text tree' tree own'.parses own.parses) is')
  one_any text i j (inl (tree, own, is)) (inr (none, is')) = absurd (none tree own)
  one_any text i j (inr (none, is)) (inl (tree, own, is')) = absurd (none tree own)
  one_any text i j (inr (none, is)) (inr (none', is')) = one_of_services services text i j is is'

  one_flaw : (text name name' : List ℕ) (at at' : ℕ) → IsAnyFlaw services text name at → IsAnyFlaw services text name' at' → (name ≡ name') × (at ≡ at')
  one_flaw text name name' at at' (inl (tree, kind, own, fault, is)) (inl (tree', kind', own', fault', is')) =
      let both = one_fault tree kind kind' at at' fault (subst (λ t. IsOwnFault t kind' at') (one_tree text tree' tree own'.parses own.parses) fault') in
      (is ∙ ap own_name both.0 ∙ sym is', both.1)
  one_flaw text name name' at at' (inl (tree, kind, own, fault, is)) (inr (none, bad)) = absurd (none tree own)
  one_flaw text name name' at at' (inr (none, bad)) (inl (tree, kind, own, fault, is)) = absurd (none tree own)
  one_flaw text name name' at at' (inr (none, bad)) (inr (none', bad')) = (judged_alone services).flaw text name name' at at' bad bad'

  flawless : (text : List ℕ) (i : Declared) (name : List ℕ) (at : ℕ) → IsAnyInterface services text i → IsAnyFlaw services text name at → ⊥
  flawless text i name at (inl (tree, own, is)) (inl (tree', kind, own', fault, named)) =
      not_both tree i kind at is (subst (λ t. IsOwnFault t kind at) (one_tree text tree' tree own'.parses own.parses) fault)
  flawless text i name at (inl (tree, own, is)) (inr (none, bad)) = none tree own
  flawless text i name at (inr (none, is)) (inl (tree, kind, own, fault, named)) = none tree own
  flawless text i name at (inr (none, is)) (inr (none', bad)) = (judged_alone services).apart text i name at is bad

  pub any_judged_alone : IsOneJudging (any_judging services)
  any_judged_alone = record { one = one_any; flaw = one_flaw; apart = flawless }

  -- a text is refused with the line that `check` says of it
  as_checked : (text line : List ℕ) → IsRefusedText (any_judging services) text line → IsChecked services text (Refused line)
  as_checked text line (name, at, inl (tree, kind, own, fault, named), is) =
      inl (tree, own, (kind, at, fault, is ∙ ap (refused_line (codes "interface refused at ") text at) named))
  as_checked text line (name, at, inr (none, (kind, bad, named)), is) = inr (none, (kind, at, bad, is ∙ ap (refused_line (codes "interface refused at ") text at) named))

  so_refused : (text line : List ℕ) → IsChecked services text (Refused line) → IsRefusedText (any_judging services) text line
  so_refused text line (inl (tree, own, (kind, at, fault, is))) = (own_name kind, at, inl (tree, kind, own, fault, refl), is)
  so_refused text line (inr (none, (kind, at, bad, is))) = (refusal_name kind, at, inr (none, (kind, bad, refl)), is)

  pub refused_alike : (text line : List ℕ) → IsRefusedText (any_judging services) text line ↔ IsChecked services text (Refused line)
  refused_alike text line = (as_checked text line, so_refused text line)

-- ---- what is answered

-- a text that is accepted so is accepted
pub accepts_as : (services : List Facts) (text : List ℕ) (i : Declared) (own : Option Description) → IsAcceptedAs services text i own → IsAnyInterface services text i
accepts_as services text i None is = inr is
accepts_as services text i (Some d) (tree, own, is, describes) = inl (tree, own, is)

module _ (services : List Facts) (input : List ℕ) where
  -- nothing else may be
  pub only_any : (answer : Result (Read (AnyInterface × Script)) NoMemory) → IfOk answer (IsAnyInputOf services input)
      → (other : Read (Declared × Script)) → IsInputOf (any_judging services) input other → IfOk answer (λ made. interfaces_in made ≡ other)
  only_any (Ok (Ready (any, script))) is other said = one_input (any_judging services) (any_judged_alone services) input (Ready (any.accepted, script)) other is.ready said
  only_any (Ok (Refused line)) is other said = one_input (any_judging services) (any_judged_alone services) input (Refused line) other is said
  only_any (Err e) is other said = tt

  pub only_any_run : (answer : Result (Read (AnyInterface × Roomy Entry)) NoMemory) → IfOk answer (IsAnyRunInputOf services input)
      → (other : Read (Declared × Roomy Entry)) → IsRunInputOf (any_judging services) input other → IfOk answer (λ made. IsSameRun (interfaces_in made) other)
  only_any_run (Ok (Ready (any, history))) is other said =
      one_run_input (any_judging services) (any_judged_alone services) input (Ready (any.accepted, history)) other is.ready said
  only_any_run (Ok (Refused line)) is other said = one_run_input (any_judging services) (any_judged_alone services) input (Refused line) other is said
  only_any_run (Err e) is other said = tt

  pub only_any_multi : (answer : Result (Read (List AnyInterface × MultiScript)) NoMemory) → IfOk answer (IsAnyMultiInputOf services input)
      → (other : Read (List Declared × MultiScript)) → IsMultiInputOf (any_judging services) input other → IfOk answer (λ made. members_in made ≡ other)
  only_any_multi (Ok (Ready (members, script))) is other said =
      one_multi_input (any_judging services) (any_judged_alone services) input (Ready (interfaces_of members, script)) other is.ready said
  only_any_multi (Ok (Refused line)) is other said = one_multi_input (any_judging services) (any_judged_alone services) input (Refused line) other is said
  only_any_multi (Err e) is other said = tt

  -- the interface is accepted, shown under another name
  module _ (interface second : List ℕ) (any : AnyInterface) (shown : Declared) (same : shown ≡ any.accepted) (served : IsAcceptedAs services interface any.accepted any.own) where
    pub script_ready : (made : Read Script) (script : Script) → AreTexts most_script input interface second → IsScriptOf shown second made → made ≡ Ready script
        → IsReadyAs services input any script
    script_ready made script texts is its = record {
      ready = record {
        interface = interface;
        second = second;
        texts = texts;
        accepted = accepts_as services interface any.accepted any.own served;
        reads = subst (λ i. IsScriptOf i second (Ready script)) same (subst (IsScriptOf shown second) its is);
      };
      served = served;
    }

    pub script_refused : (made : Read Script) (line : List ℕ) → AreTexts most_script input interface second → IsScriptOf shown second made → made ≡ Refused line
        → IsInputOf (any_judging services) input (Refused line)
    script_refused made line texts is its = inr (
      interface,
      second,
      texts,
      any.accepted,
      accepts_as services interface any.accepted any.own served,
      subst (λ i. IsScriptOf i second (Refused line)) same (subst (IsScriptOf shown second) its is),
    )

    pub run_ready : (made : Read (List Entry)) (history : List Entry) → AreTexts most_run input interface second → IsHistoryOf services shown second made → made ≡ Ready history
        → IsRunReadyAs services input any history
    run_ready made history texts is its = record {
      ready = record {
        interface = interface;
        second = second;
        texts = texts;
        accepted = accepts_as services interface any.accepted any.own served;
        reads = subst (λ i. IsHistoryOf services i second (Ready history)) same (subst (IsHistoryOf services shown second) its is);
      };
      served = served;
    }

    pub run_refused : (made : Read (List Entry)) (line : List ℕ) → AreTexts most_run input interface second → IsHistoryOf services shown second made → made ≡ Refused line
        → IsRunInputOf (any_judging services) input (Refused line)
    run_refused made line texts is its = inr (
      interface,
      second,
      texts,
      any.accepted,
      accepts_as services interface any.accepted any.own served,
      subst (λ i. IsHistoryOf services i second (Refused line)) same (subst (IsHistoryOf services shown second) its is),
    )

  -- the interfaces are accepted, shown under another name
  module _ (texts : List (List ℕ)) (last : List ℕ) (members : List AnyInterface) (shown : List Declared) (same : shown ≡ interfaces_of members) (are : AreAnyMembers services texts members) where
    pub multi_ready : (made : Read MultiScript) (script : MultiScript) → AreMultiTexts input texts last → IsMultiScriptOf shown last made → made ≡ Ready script
        → IsMultiReadyAs services input members script
    multi_ready made script divided is its = record {
      ready = record {
        texts = texts;
        last = last;
        are = divided;
        accepted = are.are;
        reads = subst (λ l. IsMultiScriptOf l last (Ready script)) same (subst (IsMultiScriptOf shown last) its is);
      };
      served = are.served;
    }

    pub multi_refused : (made : Read MultiScript) (line : List ℕ) → AreMultiTexts input texts last → IsMultiScriptOf shown last made → made ≡ Refused line
        → IsMultiInputOf (any_judging services) input (Refused line)
    multi_refused made line divided is its =
        inr (texts, last, divided, interfaces_of members, are.are, subst (λ l. IsMultiScriptOf l last (Refused line)) same (subst (IsMultiScriptOf shown last) its is))
