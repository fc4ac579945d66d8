-- What is answered is a client's last entry.
use Rattle.sg_multi.proofs.Places.{ok_both}
use Rattle.sg_multi.proofs.world.WorldAtPointsServiceWorld.step.Goals as goal

pub returns-clause-did : goal.returns-clause-did
returns-clause-did g c = ok_both _ _ _ c.step.result c.step.ensures.did c.step.ensures.answers (λ did steps answers. (steps, answers))
