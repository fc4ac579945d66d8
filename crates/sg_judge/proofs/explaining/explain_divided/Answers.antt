-- An interface that describes a service of its own, and any other.
use Rattle.std.proofs.Common.{map, subst}
use Rattle.std.specs.Prelude.{MatchOption}
use Rattle.std.proofs.lemmas.Result.{IfOk-weaker}
use Rattle.sg_explain.specs.sg_facts.Facts.{facts_of}
use Rattle.sg_judge.specs.Inside.Told.{AreShort}
use Rattle.sg_judge.specs.OwnExplained.{IsExplainedAny}
use Rattle.sg_judge.specs.Said.{IsOfServices, IsOwnText}
use Rattle.sg_judge.proofs.OwnTelling.{other_divided, own_divided}
use Rattle.sg_judge.proofs.explaining.explain_divided.Goals as goal

pub returns-in-Some : goal.returns-in-Some
returns-in-Some c =
    let services = map facts_of c.args.shapes.now in
    let text = c.args.interface.now in
    let script = c.args.script.now in
    let its = subst (λ o. MatchOption o (AreShort text script → IsOfServices text) (λ t. AreShort text script × IsOwnText text t)) c.in-Some.is c.in_ok-tree.ensures in
    IfOk-weaker c.explain_own_input.result _ (IsExplainedAny services c.args.input.now)
    (λ told h. own_divided services c.args.input.now text script c.requires.cut c.in-Some.tree told its.0 its.1 (h services c.args.input.now)) c.explain_own_input.ensures

pub returns-in-None : goal.returns-in-None
returns-in-None c =
    let services = map facts_of c.args.shapes.now in
    let text = c.args.interface.now in
    let script = c.args.script.now in
    let none = subst (λ o. MatchOption o (AreShort text script → IsOfServices text) (λ t. AreShort text script × IsOwnText text t)) c.in-None.is c.in_ok-tree.ensures in
    IfOk-weaker c.explain.result _ (IsExplainedAny services c.args.input.now)
    (λ told is. other_divided services c.args.input.now text script c.requires.cut told none is) c.explain.ensures
