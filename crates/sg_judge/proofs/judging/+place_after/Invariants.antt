-- One answer fewer is passed.
use Rattle.sg_judge.proofs.judging.+place_after.Given as goal

abbrev pub decreases-place_after : goal.decreases-place_after
decreases-place_after l = l.passed
