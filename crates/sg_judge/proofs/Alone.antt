-- Nothing is explained as accepted and as refused.
use Rattle.std.proofs.Common.{◌≡◌, inl, inr, ℕ, List, subst}
use Rattle.sg_explain.specs.sg_facts.Facts.{Facts}
use Rattle.sg_explain.specs.sg_input.sg_print.sg_parse.declared.tree.Tree.{Tree}
use Rattle.sg_explain.proofs.sg_input.OneInput.{never_ready, one_tree}
use Rattle.sg_explain.specs.sg_input.declared.read.Read.TheVariants.{Ready, Refused}
use Rattle.sg_own.specs.Faults.{IsOwnFault}
use Rattle.sg_own.proofs.One.{not_both}
use Rattle.sg_explain.proofs.Alone.{explained_alone}
use Rattle.sg_judge.specs.AnyInputs.{any_judging}
use Rattle.sg_judge.specs.OwnExplained.{ExplainsOwn, ExplainsOwnScript, IsExplainedAny, IsOwnInput}
use Rattle.sg_judge.specs.Said.{IsOwnText}
use Rattle.sg_judge.proofs.AnyInputs.{any_judged_alone}
use Rattle.sg_judge.proofs.OwnTelling.{one_text}

module _ (services : List Facts) (input : List ℕ) where
  -- the interface of an input is one
  one_own : (text text' : List ℕ) (tree tree' : Tree) → IsOwnInput input text tree → IsOwnInput input text' tree' → tree' ≡ tree
  one_own text text' tree tree' is is' =
      let own : IsOwnText text tree' = subst (λ t. IsOwnText t tree') (one_text input text' text is'.its is.its) is'.own in
      one_tree text tree' tree own.parses is.own.parses

  -- an input whose script is refused isn't ready, nor a text alone
  script_alone : (text told other : List ℕ) (tree tree' : Tree) → ExplainsOwn services input tree told → ExplainsOwnScript services input text tree' other → ⊥
  script_alone text told other tree tree' good bad = elim good.counted [
    | inl alone ↦ alone.0 text bad.script bad.texts.cut.divides
    | inr divided ↦ never_ready (any_judging services) (any_judged_alone services) input bad.line good.i divided.0 bad.refused divided.1
  ]

  pub any_alone : (told other : List ℕ) → IsExplainedAny services input (Ready told) → IsExplainedAny services input (Refused other) → ⊥
  any_alone told other (inl (text, tree, is, good)) (inl (text', tree', is', inl bad)) =
      not_both tree good.i bad.kind bad.at good.accepted (subst (λ t. IsOwnFault t bad.kind bad.at) (one_own text text' tree tree' is is') bad.fault)
  any_alone told other (inl (text, tree, is, good)) (inl (text', tree', is', inr bad)) = script_alone text' told other tree tree' good bad
  any_alone told other (inl (text, tree, is, good)) (inr (none, bad)) = none text tree is
  any_alone told other (inr (none, good)) (inl (text, tree, is, bad)) = none text tree is
  any_alone told other (inr (none, good)) (inr (none', bad)) = explained_alone services input told other good bad
