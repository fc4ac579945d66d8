-- The kinds so far are clear.
use Rattle.sg_describe.specs.Inside.Stages.{AreClear}
use Rattle.sg_describe.proofs.describing.flawless.Given as goal

abbrev pub invariant-loop-kind : goal.invariant-loop-kind
invariant-loop-kind l = AreClear l.tree l.kind-index
