-- So many kinds are clear as were looked for, and the limits before them.
use Rattle.std.proofs.Common.{◌+◌}
use Rattle.sg_shape.specs.Inside.Stages.{AreClear}
use Rattle.sg_shape.proofs.shaping.flawless.Given as goal

abbrev pub invariant-loop-kind : goal.invariant-loop-kind
invariant-loop-kind l = AreClear l.tree (l.kind-index + 1)
