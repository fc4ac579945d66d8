-- What is explained of an input, put together.
use Rattle.std.proofs.Common.{◌≡◌, ℕ, ◌<◌, ◌≤◌, List, [], ◌++◌, Ok, Err, length, refl, sym, ◌∙◌, ap, inl, inr, append-nil, append_assoc, true, false, arith}
use Rattle.std.specs.Prelude.{◌||◌, codes, nat_lt, IfOk}
use Rattle.std.specs.declared.result.Result.{Result}
use Rattle.std.proofs.lemmas.Bool.{cases_lt}
use Rattle.std.proofs.lemmas.Bool.Decides.{nat_tests}
use Rattle.std.specs.List.{flat_map}
use Rattle.sg_input.specs.sg_facts.Facts.{Facts}
use Rattle.sg_input.specs.sg_facts.Interface.{Declared}
use Rattle.sg_input.specs.sg_facts.Tables.{AreTables}
use Rattle.sg_input.specs.sg_facts.declared.tables.WalkLine.{WalkLine}
use Rattle.sg_input.specs.Divider.{IsCut}
use Rattle.sg_input.specs.Inputs.{AreTexts, IsInputOf, IsInterface, judged_by, most_interface, most_script}
use Rattle.sg_input.specs.Lines.{refused_line, script_kind_name, too_long_line}
use Rattle.sg_input.specs.declared.read.Read.{Read}
use Rattle.sg_input.specs.declared.read.Read.TheVariants.{Ready, Refused}
use Rattle.sg_input.specs.sg_script.Reads.{IsReadingOf}
use Rattle.sg_input.specs.sg_script.declared.fault.ScriptError.TheVariants.{Fault}
use Rattle.sg_input.specs.sg_script.declared.fault.ScriptFault.{ScriptFault}
use Rattle.sg_input.specs.sg_script.declared.script.Script.{Script}
use Rattle.sg_explain.specs.Explained.{IsExplained, IsInterfaceText, IsUndivided, why_at}
use Rattle.sg_explain.specs.Rebuilt.{counts_line, rebuilt_line}
use Rattle.sg_explain.specs.Words.{script_words}
use Rattle.sg_explain.specs.Inside.Pieces.{TellsInterface, TellsLength, TellsRefusal, accepted_line}

-- ---- lengths

pub longer_than : (most n : ℕ) → nat_lt most n ≡ true → most < n
longer_than most n is = grind (arith, nat_tests)

pub no_longer : (most n : ℕ) → nat_lt most n ≡ false → n ≤ most
no_longer most n isn't = grind (arith, nat_tests)

second_longer : (a n b m : ℕ) → (nat_lt a n || nat_lt b m) ≡ true → n ≤ a → b < m
second_longer a n b m is le = grind (arith, nat_tests)

pub first_no_longer : (a n b m : ℕ) → (nat_lt a n || nat_lt b m) ≡ false → n ≤ a
first_no_longer a n b m isn't = grind (arith, nat_tests)

pub second_no_longer : (a n b m : ℕ) → (nat_lt a n || nat_lt b m) ≡ false → m ≤ b
second_no_longer a n b m isn't = grind (arith, nat_tests)

-- ---- interfaces

-- what is told by the lines of an interface's tables
pub told_tables : {E : Type 0} (r : Result (List ℕ) E) (i j : Declared) (walks lines : List WalkLine) → AreTables i walks → j ≡ i → lines ≡ walks
    → IfOk r (λ told. told ≡ accepted_line j.facts.name ++ flat_map (rebuilt_line j.facts) lines) → IfOk r (TellsInterface i)
told_tables (Ok told) i j walks lines tables same lent is = (
  walks,
  tables,
  is ∙ ap (λ (k : Declared). accepted_line k.facts.name ++ flat_map (rebuilt_line k.facts) lines) same ∙ ap (λ w. accepted_line i.facts.name ++ flat_map (rebuilt_line i.facts) w) lent,
)
told_tables (Err e) i j walks lines tables same lent is = tt

module _ (services : List Facts) (input : List ℕ) where
  -- ---- too long

  pub long_text : {E : Type 0} (r : Result (Read (List ℕ)) E) → IsUndivided input → most_interface < length input → IfOk r TellsLength → IfOk r (IsExplained services input)
  long_text (Ok (Ready told)) undivided long is = absurd is
  long_text (Ok (Refused told)) undivided long is = inl (inl (undivided, long), is)
  long_text (Err e) undivided long is = tt

  long_input : (told : Read (List ℕ)) → IsInputOf (judged_by services) input (Refused too_long_line) → TellsLength told → IsExplained services input told
  long_input (Ready told) long is = absurd is
  long_input (Refused told) long is = inl (inr long, is)

  pub long_texts : (told : Read (List ℕ)) (interface script : List ℕ) → IsCut input interface script
      → (nat_lt most_interface (length interface) || nat_lt most_script (length script)) ≡ true → TellsLength told → IsExplained services input told
  long_texts told interface script cut long is = elim (cases_lt most_interface (length interface)) [
    | inl gt ↦ long_input told (inl (inr (inl ((interface, script, cut, inl gt), refl)))) is
    | inr le ↦ long_input told (inl (inr (inl ((interface, script, cut, inr (second_longer most_interface (length interface) most_script (length script) long le)), refl)))) is
  ]

  -- ---- the interface

  -- the text of an input that no line divides
  pub alone : IsUndivided input → length input ≤ most_interface → IsInterfaceText input input
  alone undivided fits = inl (undivided, fits, refl)

  -- two texts that aren't too long
  pub both_fit : (interface script : List ℕ) → IsCut input interface script → (nat_lt most_interface (length interface) || nat_lt most_script (length script)) ≡ false
      → AreTexts most_script input interface script
  both_fit interface script cut fits = record {
    cut = cut;
    interface_fits = first_no_longer most_interface (length interface) most_script (length script) fits;
    second_fits = second_no_longer most_interface (length interface) most_script (length script) fits;
  }

  -- the text before the line that divides an input
  pub first_of : (interface script : List ℕ) → AreTexts most_script input interface script → IsInterfaceText input interface
  first_of interface script texts = inr (script, texts)

  pub bad_interface : (told text : List ℕ) → IsInterfaceText input text → TellsRefusal services text told → IsExplained services input (Refused told)
  bad_interface told text its (line, verdict, (why, reason, is)) = inr (inl (record {
    text = text;
    its = its;
    line = line;
    verdict = verdict;
    kind = reason.kind;
    at = reason.at;
    refused = reason.refused;
    more = reason.more;
    besides = reason.besides;
    is = is ∙ ap (λ w. line ++ w) reason.is;
  }))

  pub good_text : (told : List ℕ) (i : Declared) → IsUndivided input → length input ≤ most_interface → IsInterface services input i → TellsInterface i told → IsExplained services input (Ready told)
  good_text told i undivided fits (tree, parses, is) (walks, tables, said) = record {
    text = input;
    its = inl (undivided, fits, refl);
    line = accepted_line i.facts.name;
    verdict = (tree, i, parses, is, refl);
    i = i;
    accepted = (tree, parses, is);
    walks = walks;
    tables = tables;
    counts = [];
    counted = inl (undivided, refl);
    is = said ∙ ap (λ l. accepted_line i.facts.name ++ l) (sym (append-nil (flat_map (rebuilt_line i.facts) walks)));
  }

  -- ---- the script

  module _ (interface second : List ℕ) (i : Declared) (texts : AreTexts most_script input interface second) (accepted : IsInterface services interface i) where
    pub good_input : (told old : List ℕ) (script : Script) → IsReadingOf i second (Ok script) → TellsInterface i old → told ≡ old ++ counts_line script → IsExplained services input (Ready told)
    good_input told old script reads (walks, tables, said) more =
        let lines = flat_map (rebuilt_line i.facts) walks in record {
          text = interface;
          its = inr (second, texts);
          line = accepted_line i.facts.name;
          verdict = (accepted.0, i, accepted.1, accepted.2, refl);
          i = i;
          accepted = accepted;
          walks = walks;
          tables = tables;
          counts = counts_line script;
          counted = inr (script, record { interface = interface; second = second; texts = texts; accepted = accepted; reads = reads }, refl);
          is = more ∙ ap (λ l. l ++ counts_line script) said ∙ append_assoc (accepted_line i.facts.name) lines (counts_line script)
              ∙ ap (λ l. accepted_line i.facts.name ++ (lines ++ l)) (sym (append-nil (counts_line script)));
        }

    pub bad_script : (told : List ℕ) (fault : ScriptFault) → IsReadingOf i second (Err (Fault fault))
        → told ≡ refused_line (codes "script refused at ") second fault.at (script_kind_name fault.kind) ++ why_at second fault.at (script_words fault.kind)
        → IsExplained services input (Refused told)
    bad_script told fault reads is = inr (inr (record {
      line = refused_line (codes "script refused at ") second fault.at (script_kind_name fault.kind);
      refused = inr (interface, second, texts, i, accepted, (fault, reads, refl));
      interface = interface;
      script = second;
      texts = texts;
      i = i;
      accepted = accepted;
      fault = fault;
      reads = reads;
      is = is;
    }))
