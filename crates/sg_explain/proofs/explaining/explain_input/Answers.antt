-- Two texts.
use Rattle.std.proofs.Common.{◌∙◌, map, subst, sym}
use Rattle.std.proofs.lemmas.Result.{IfOk-weaker}
use Rattle.sg_input.specs.sg_facts.Facts.{facts_of}
use Rattle.sg_explain.proofs.Explained.{bad_interface, both_fit, first_of, long_texts}
use Rattle.sg_explain.specs.Inside.Pieces.{IsExaminedWithReason}
use Rattle.sg_explain.proofs.explaining.explain_input.Goals as goal

pub returns-then-are_longer : goal.returns-then-are_longer
returns-then-are_longer c =
    IfOk-weaker c.too_long.result _ _
    (λ told is. λ input cut. long_texts (map facts_of c.args.shapes.now) input told c.args.interface.now c.args.script.now cut
    (sym c.are_longer.ensures ∙ c.if-are_longer.true) is) c.too_long.ensures

pub returns-in-Ready : goal.returns-in-Ready
returns-in-Ready c =
    let services = map facts_of c.args.shapes.now in
    IfOk-weaker c.explain_script.result _ _
    (λ told h. λ input cut. h services input c.args.interface.now
    (both_fit services input c.args.interface.now c.args.script.now cut (sym c.are_longer.ensures ∙ c.if-are_longer.false))
    (subst (IsExaminedWithReason services c.args.interface.now) c.in-Ready.is c.in_ok-examined.ensures)) c.explain_script.ensures

pub returns-in-Refused : goal.returns-in-Refused
returns-in-Refused c =
    let services = map facts_of c.args.shapes.now in
    λ input cut. bad_interface services input c.in-Refused.told c.args.interface.now
    (first_of services input c.args.interface.now c.args.script.now
    (both_fit services input c.args.interface.now c.args.script.now cut (sym c.are_longer.ensures ∙ c.if-are_longer.false)))
    (subst (IsExaminedWithReason services c.args.interface.now) c.in-Refused.is c.in_ok-examined.ensures)
