-- One argument fewer is left.
use Rattle.sg_shape.proofs.forbidden.+each_arg.Given as goal

abbrev pub decreases-each_arg : goal.decreases-each_arg
decreases-each_arg l = l.count
