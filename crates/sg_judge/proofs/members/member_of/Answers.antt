-- It is accepted, and something keeps it from being one more.
use Rattle.std.proofs.Common.{◌≡◌, ◌+◌, ◌∙◌, inr, Some, length, map, ap, sym, subst}
use Rattle.std.proofs.lemmas.List.{length-map}
use Rattle.sg_explain.specs.sg_facts.Facts.{facts_of}
use Rattle.sg_explain.specs.sg_input.MultiInputs.{member_flaw, member_line}
use Rattle.sg_judge.specs.AnyInputs.{interfaces_of}
use Rattle.sg_judge.specs.Inside.Examined.{IsExaminedAs}
use Rattle.sg_judge.specs.declared.interface.AnyInterface.{AnyInterface}
use Rattle.sg_judge.proofs.AnyInputs.{accepts_as}
use Rattle.sg_judge.proofs.members.member_of.Goals as goal

pub returns-in_ok-line-in-Some : goal.returns-in_ok-line-in-Some
returns-in_ok-line-in-Some c =
    let services = map facts_of c.args.shapes.now in
    let text = c.args.text.now in
    let members = c.args.members.now in
    let any = c.in-Accepted.any in
    let name = c.in-Some.name.now in
    let is = subst (IsExaminedAs services text) c.in-Accepted.is c.in_ok-any.ensures in
    let flaw : member_flaw (interfaces_of members) any.accepted ≡ Some name = ap (member_flaw (interfaces_of members)) (sym c.interface.ensures.same) ∙ sym c.in-Some.ensures in
    inr (
      is.1.0,
      any.accepted,
      name,
      is.1.1,
      accepts_as services text any.accepted any.own is.0,
      flaw,
      c.in_ok-line-in-Some.ensures ∙ ap (λ n. member_line (n + 1) text c.in-Accepted.service_at name) (sym (length-map members (λ (m : AnyInterface). m.accepted)))
          ∙ ap (λ at. member_line (length (interfaces_of members) + 1) text at name) is.1.2,
    )
