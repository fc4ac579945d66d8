-- A text that describes a service of its own, and any other.
use Rattle.std.proofs.Common.{◌≤◌, length, map, subst}
use Rattle.std.specs.Prelude.{MatchOption}
use Rattle.std.proofs.lemmas.Result.{IfOk-weaker}
use Rattle.sg_explain.specs.sg_facts.Facts.{facts_of}
use Rattle.sg_explain.specs.sg_input.Inputs.{most_interface}
use Rattle.sg_judge.specs.OwnExplained.{IsExplainedAny}
use Rattle.sg_judge.specs.Said.{IsOfServices, IsOwnText}
use Rattle.sg_judge.proofs.OwnTelling.{other_alone, own_alone}
use Rattle.sg_judge.proofs.explaining.explain_alone.Goals as goal

pub returns-in-Some : goal.returns-in-Some
returns-in-Some c =
    let services = map facts_of c.args.shapes.now in
    let text = c.args.text.now in
    let its = subst (λ o. MatchOption o (length text ≤ most_interface → IsOfServices text) (λ t. (length text ≤ most_interface) × IsOwnText text t)) c.in-Some.is c.in_ok-tree.ensures in
    IfOk-weaker c.explain_own.result _ (IsExplainedAny services text)
    (λ told h. own_alone services text c.in-Some.tree told c.requires.undivided its.0 its.1 (h services)) c.explain_own.ensures

pub returns-in-None : goal.returns-in-None
returns-in-None c =
    let services = map facts_of c.args.shapes.now in
    let text = c.args.text.now in
    let none = subst (λ o. MatchOption o (length text ≤ most_interface → IsOfServices text) (λ t. (length text ≤ most_interface) × IsOwnText text t)) c.in-None.is c.in_ok-tree.ensures in
    IfOk-weaker c.explain.result _ (IsExplainedAny services text) (λ told is. other_alone services text told c.requires.undivided none is) c.explain.ensures
