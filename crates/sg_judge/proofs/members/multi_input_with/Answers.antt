-- There are few members, and the input is what its script is; or a text is refused after those before it.
use Rattle.std.proofs.Common.{inl, inr, ℕ, List, arith, map, sym, subst}
use Rattle.std.proofs.lemmas.List.{length-map}
use Rattle.std.proofs.lemmas.Result.{IfOk-weaker}
use Rattle.sg_explain.specs.sg_facts.Facts.{facts_of}
use Rattle.sg_explain.specs.sg_input.MultiInputs.{AreMultiTexts}
use Rattle.sg_judge.specs.AnyInputs.{IsAnyMultiInputOf}
use Rattle.sg_judge.specs.Inside.Examined.{AreAnyMembers, IsGathered}
use Rattle.sg_judge.specs.declared.interface.AnyInterface.{AnyInterface}
use Rattle.sg_judge.proofs.members.multi_input_with.Goals as goal

pub with_script-requires : goal.with_script-requires
with_script-requires c =
    let services = map facts_of c.args.shapes.now in
    let texts = map (λ t. t.now) c.as_slice.result.now in
    let are : AreAnyMembers services texts c.in-Ready.members = subst (IsGathered services texts) c.in-Ready.is c.in_ok-members.ensures in
    let few = are.are.few in
    omega (arith, few, length-map c.in-Ready.members (λ (m : AnyInterface). m.accepted))

pub returns-in-Ready : goal.returns-in-Ready
returns-in-Ready c =
    let services = map facts_of c.args.shapes.now in
    let texts = map (λ t. t.now) c.as_slice.result.now in
    let shown = map (λ t. t.now) c.args.texts.now.interfaces.items in
    let script = c.args.texts.now.script.now in
    let are : AreAnyMembers services texts c.in-Ready.members = subst (IsGathered services texts) c.in-Ready.is c.in_ok-members.ensures in
    IfOk-weaker c.with_script.result _ (λ made. (input : List ℕ) → AreMultiTexts input shown script → IsAnyMultiInputOf services input made)
    (λ made h. λ input divided. h input texts services (subst (λ l. AreMultiTexts input (map (λ t. t.now) l) script) (sym c.as_slice.ensures.value) divided) are) c.with_script.ensures

pub returns-in-Refused : goal.returns-in-Refused
returns-in-Refused c = λ input divided.
    let services = map facts_of c.args.shapes.now in
    let texts = map (λ t. t.now) c.as_slice.result.now in
    let script = c.args.texts.now.script.now in
    let bad = subst (IsGathered services texts) c.in-Refused.is c.in_ok-members.ensures in
    let its : AreMultiTexts input texts script = subst (λ l. AreMultiTexts input (map (λ t. t.now) l) script) (sym c.as_slice.ensures.value) divided in
    inl (inr (inr (bad.0, bad.1, bad.2, script, subst (λ l. AreMultiTexts input l script) bad.3 its, map (λ (m : AnyInterface). m.accepted) bad.4, bad.5, bad.6)))
