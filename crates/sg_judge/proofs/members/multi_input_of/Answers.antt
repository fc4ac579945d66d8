-- Its texts, and what they are.
use Rattle.std.proofs.Common.{map, subst}
use Rattle.std.proofs.lemmas.Result.{IfOk-weaker}
use Rattle.sg_explain.specs.sg_facts.Facts.{facts_of}
use Rattle.sg_explain.specs.sg_input.Inside.Parted.{AreMultiInputTexts}
use Rattle.sg_explain.proofs.sg_input.ReadAs.{multi_texts_refused}
use Rattle.sg_judge.specs.AnyInputs.{IsAnyMultiInputOf, any_judging}
use Rattle.sg_judge.proofs.members.multi_input_of.Goals as goal

pub returns-in-Ready : goal.returns-in-Ready
returns-in-Ready c =
    IfOk-weaker c.multi_input_with.result _ (IsAnyMultiInputOf (map facts_of c.args.shapes.now) c.args.input.now)
    (λ made h. h c.args.input.now (subst (AreMultiInputTexts c.args.input.now) c.in-Ready.is c.in_ok-texts.ensures)) c.multi_input_with.ensures

pub returns-in-Refused : goal.returns-in-Refused
returns-in-Refused c =
    multi_texts_refused (any_judging (map facts_of c.args.shapes.now)) c.args.input.now c.in-Refused.line
    (subst (AreMultiInputTexts c.args.input.now) c.in-Refused.is c.in_ok-texts.ensures)
