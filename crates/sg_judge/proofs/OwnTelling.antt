-- What is explained of an input whose interface describes a service of its own, put together.
use Rattle.std.proofs.Common.{◌≡◌, inl, inr, ℕ, ◌≤◌, List, [], ◌++◌, refl, sym, ◌∙◌, ap, subst, length, append-nil}
use Rattle.std.specs.Prelude.{Ok, Err, codes}
use Rattle.std.specs.List.{flat_map}
use Rattle.sg_explain.specs.Explained.{IsExplained, IsInterfaceText, IsUndivided, why_at}
use Rattle.sg_explain.specs.Rebuilt.{counts_line, rebuilt_line}
use Rattle.sg_explain.specs.Words.{script_words}
use Rattle.sg_explain.specs.sg_facts.Facts.{Facts}
use Rattle.sg_explain.specs.sg_facts.Interface.{Declared}
use Rattle.sg_explain.specs.sg_facts.Words.{line_end}
use Rattle.sg_explain.specs.sg_input.Divider.{IsCut}
use Rattle.sg_explain.specs.sg_input.Inputs.{AreTexts, most_interface, most_script}
use Rattle.sg_explain.specs.sg_input.Lines.{refused_line, script_kind_name}
use Rattle.sg_explain.specs.sg_input.declared.read.Read.{Read}
use Rattle.sg_explain.specs.sg_input.sg_print.sg_parse.declared.tree.Tree.{Tree}
use Rattle.sg_explain.specs.sg_input.sg_script.Reads.{IsReadingOf}
use Rattle.sg_explain.specs.sg_input.sg_script.declared.fault.ScriptError.TheVariants.{Fault}
use Rattle.sg_explain.specs.sg_input.sg_script.declared.fault.ScriptFault.{ScriptFault}
use Rattle.sg_explain.specs.sg_input.sg_script.declared.script.Script.{Script}
use Rattle.sg_explain.proofs.sg_input.OneCut.{one_cut}
use Rattle.sg_own.specs.Faults.{IsOwnAccepted}
use Rattle.sg_judge.specs.AnswerLines.{answers_in}
use Rattle.sg_judge.specs.Inside.Told.{AreShort, TellsOwn}
use Rattle.sg_judge.specs.OwnExplained.{ExplainsOwn, ExplainsOwnScript, IsExplainedAny, IsOwnExplained, IsOwnInput}
use Rattle.sg_judge.specs.Said.{IsOfServices, IsOwnText}

-- ---- the text of an interface

-- an input has one
pub one_text : (input text text' : List ℕ) → IsInterfaceText input text → IsInterfaceText input text' → text ≡ text'
one_text input text text' (inl (none, fits, is)) (inl (none', fits', is')) = is ∙ sym is'
one_text input text text' (inl (none, fits, is)) (inr (script, texts)) = absurd (none text' script texts.cut.divides)
one_text input text text' (inr (script, texts)) (inl (none, fits, is)) = absurd (none text script texts.cut.divides)
one_text input text text' (inr (script, texts)) (inr (script', texts')) = (one_cut input text script text' script' texts.cut texts'.cut).0

module _ (services : List Facts) (input : List ℕ) where
  -- ---- an interface alone

  pub own_alone : (tree : Tree) (told : Read (List ℕ)) → IsUndivided input → length input ≤ most_interface → IsOwnText input tree
      → IsOwnExplained services input input tree told → IsExplainedAny services input told
  own_alone tree told undivided short own is = inl (input, tree, record { its = inl (undivided, short, refl); own = own }, is)

  none_alone : IsUndivided input → (length input ≤ most_interface → IsOfServices input) → (text : List ℕ) (tree : Tree) → IsOwnInput input text tree → ⊥
  none_alone undivided none text tree own = by own.its
    where
      by : IsInterfaceText input text → ⊥
      by (inl (alone, short, is)) = none short tree (subst (λ t. IsOwnText t tree) is own.own)
      by (inr (script, texts)) = undivided text script texts.cut.divides

  pub other_alone : (told : Read (List ℕ)) → IsUndivided input → (length input ≤ most_interface → IsOfServices input) → IsExplained services input told → IsExplainedAny services input told
  other_alone told undivided none is = inr (none_alone undivided none, is)

  pub good_alone : (tree : Tree) (i : Declared) (told : List ℕ) → IsUndivided input → IsOwnAccepted tree i → TellsOwn tree i told → ExplainsOwn services input tree told
  good_alone tree i told undivided accepted (walks, tables, is) = record {
    i = i;
    accepted = accepted;
    walks = walks;
    tables = tables;
    counts = [];
    counted = inl (undivided, refl);
    is = is ∙ sym (append-nil ((codes "accepted " ++ i.facts.name ++ line_end) ++ (flat_map (rebuilt_line i.facts) walks ++ flat_map answers_in tree.statements)));
  }

  -- ---- an interface and a script

  module _ (interface script : List ℕ) (cut : IsCut input interface script) where
    texts_of : AreShort interface script → AreTexts most_script input interface script
    texts_of short = record { cut = cut; interface_fits = short.0; second_fits = short.1 }

    pub own_divided : (tree : Tree) (told : Read (List ℕ)) → AreShort interface script → IsOwnText interface tree
        → (AreTexts most_script input interface script → IsOwnExplained services input interface tree told) → IsExplainedAny services input told
    own_divided tree told short own is = inl (interface, tree, record { its = inr (script, texts_of short); own = own }, is (texts_of short))

    none_divided : (AreShort interface script → IsOfServices interface) → (text : List ℕ) (tree : Tree) → IsOwnInput input text tree → ⊥
    none_divided none text tree own = by own.its
      where
        by : IsInterfaceText input text → ⊥
        by (inl (alone, short, is)) = alone interface script cut.divides
        by (inr (second, texts)) =
            let same = one_cut input text second interface script texts.cut cut in
            none (subst (λ t. length t ≤ most_interface) same.0 texts.interface_fits, subst (λ t. length t ≤ most_script) same.1 texts.second_fits) tree
            (subst (λ t. IsOwnText t tree) same.0 own.own)

    pub other_divided : (told : Read (List ℕ)) → (AreShort interface script → IsOfServices interface) → IsExplained services input told → IsExplainedAny services input told
    other_divided told none is = inr (none_divided none, is)

  module _ (text second : List ℕ) (tree : Tree) (i : Declared) (texts : AreTexts most_script input text second) (own : IsOwnText text tree) (accepted : IsOwnAccepted tree i) where
    pub good_input : (told old : List ℕ) (script : Script) → IsReadingOf i second (Ok script) → TellsOwn tree i old → told ≡ old ++ counts_line script
        → ExplainsOwn services input tree told
    good_input told old script reads (walks, tables, is) more = record {
      i = i;
      accepted = accepted;
      walks = walks;
      tables = tables;
      counts = counts_line script;
      counted = inr (script, record { interface = text; second = second; texts = texts; accepted = inl (tree, own, accepted); reads = reads }, refl);
      is = more ∙ ap (λ l. l ++ counts_line script) is;
    }

    pub bad_script : (told : List ℕ) (fault : ScriptFault) → IsReadingOf i second (Err (Fault fault))
        → told ≡ refused_line (codes "script refused at ") second fault.at (script_kind_name fault.kind) ++ why_at second fault.at (script_words fault.kind)
        → ExplainsOwnScript services input text tree told
    bad_script told fault reads is = record {
      line = refused_line (codes "script refused at ") second fault.at (script_kind_name fault.kind);
      refused = inr (text, second, texts, i, inl (tree, own, accepted), (fault, reads, refl));
      script = second;
      texts = texts;
      i = i;
      accepted = accepted;
      fault = fault;
      reads = reads;
      is = is;
    }
