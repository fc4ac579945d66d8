-- Its texts, and what the first stands for.
use Rattle.std.proofs.Common.{map, subst}
use Rattle.std.proofs.lemmas.Result.{IfOk-weaker}
use Rattle.sg_facts.specs.Facts.{facts_of}
use Rattle.sg_input.specs.Inputs.{judged_by}
use Rattle.sg_input.specs.Inside.Parted.{AreInputParts, AreInputTexts}
use Rattle.sg_input.proofs.ReadAs.{texts_refused}
use Rattle.sg_input.proofs.parted.input_parts.Goals as goal

pub returns-in-Ready : goal.returns-in-Ready
returns-in-Ready c =
    IfOk-weaker c.parts_of_texts.result _ (AreInputParts c.args.most (map facts_of c.args.shapes.now) c.args.input.now)
    (λ parts h. h c.args.most c.args.input.now (subst (AreInputTexts c.args.most c.args.input.now) c.in-Ready.is c.in_ok-texts.ensures)) c.parts_of_texts.ensures

pub returns-in-Refused : goal.returns-in-Refused
returns-in-Refused c =
    texts_refused c.args.most (judged_by (map facts_of c.args.shapes.now)) c.args.input.now c.in-Refused.line
    (subst (AreInputTexts c.args.most c.args.input.now) c.in-Refused.is c.in_ok-texts.ensures)
