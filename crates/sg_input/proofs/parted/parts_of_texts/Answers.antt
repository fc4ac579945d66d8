-- What a verdict refuses is refused as the text of an interface.
use Rattle.std.proofs.Common.{inr, map, subst}
use Rattle.sg_facts.specs.Facts.{facts_of}
use Rattle.sg_input.specs.Examined.{IsExamined}
use Rattle.sg_input.proofs.OneInput.{refused_text}
use Rattle.sg_input.proofs.parted.parts_of_texts.Goals as goal

pub returns-in-Refused : goal.returns-in-Refused
returns-in-Refused c = λ most input texts.
    let services = map facts_of c.args.shapes.now in
    let text = c.args.texts.interface.now in
    inr (inr (text, c.args.texts.second.now, texts, refused_text services text c.in-Refused.line (subst (IsExamined services text) c.in-Refused.is c.in_ok-accepted.ensures.answer)))
