-- What is kept is the first.
use Rattle.std.proofs.Common.{◌∙◌}
use Rattle.sg_script.specs.Flaws.{flaws_of}
use Rattle.sg_script.proofs.Earliest.{judged}
use Rattle.sg_script.proofs.judging.judge.Goals as goal

pub returns : goal.returns
returns c = judged c.fault.result (flaws_of c.args.members.now c.args.parts.now) (c.fault.ensures ∙ c.first_in.ensures)
