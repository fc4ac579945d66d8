-- What is kept of a part.
use Rattle.sg_script.proofs.Parts.{part_judged}
use Rattle.sg_script.proofs.judging.judge_part.Goals as goal

pub returns : goal.returns
returns c = λ parts is.
    part_judged c.args.members.now c.args.setup parts c.args.part.now _ _ _ _ _ _ (c.comes_again.ensures parts is) c.part_place.ensures is.calls c.note_if.ensures c.judge_inside.ensures
