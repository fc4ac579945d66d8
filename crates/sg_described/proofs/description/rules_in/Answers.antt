-- The rules are those of the place, or there are none.
use Rattle.sg_described.proofs.Among.{among_beyond, among_there}
use Rattle.sg_described.proofs.description.rules_in.Goals as goal

pub returns-in-Some : goal.returns-in-Some
returns-in-Some c = let h = c.in-Some.ensures.lookup in among_there c.args.answers.now c.args.at c.in-Some.answer.now h.3.0 h.1

pub returns-in-None : goal.returns-in-None
returns-in-None c = let h = c.in-None.ensures.lookup in among_beyond c.args.answers.now c.args.at h.3
