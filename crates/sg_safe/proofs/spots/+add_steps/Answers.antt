-- One step, and then the others.
use Rattle.sg_safe.proofs.spots.+add_steps.Goals as goal

pub returns-in_ok-add_steps-in-len1-up-clause-reached : goal.returns-in_ok-add_steps-in-len1-up-clause-reached
returns-in_ok-add_steps-in-len1-up-clause-reached t c =
    λ calls from old. c.in_ok-add_steps-in-len1-up.ensures.reached calls from (c.in_ok-add_step-in-len1-up.ensures.reached calls from old)
