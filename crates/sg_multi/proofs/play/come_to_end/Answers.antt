-- One turn more.
use Rattle.std.proofs.Common.{◌∙◌, refl}
use Rattle.sg_multi.proofs.play.come_to_end.Goals as goal

pub turns-init : goal.turns-init
turns-init g c = (c.requires.keeps, refl)

pub turns-preserved : goal.turns-preserved
turns-preserved g c = (c.in_ok-take_turn.ensures.turned c.in-Some.turn.passed c.in-Some.ensures.next, c.take_turn.ensures.same ∙ c.turns.invariant.1)

pub returns-in_err-take_turn-clause-same : goal.returns-in_err-take_turn-clause-same
returns-in_err-take_turn-clause-same g c = c.take_turn.ensures.same ∙ c.turns.invariant.1
