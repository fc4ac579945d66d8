-- So many kinds are clear as were looked for, and the service's before them.
use Rattle.std.proofs.Common.{◌+◌, map}
use Rattle.sg_facts.specs.Facts.{facts_of}
use Rattle.sg_check_statements.specs.Stages.{IsClear}
use Rattle.sg_check_statements.proofs.stages.fit_one_by_one.Given as goal

abbrev pub invariant-loop-kind : goal.invariant-loop-kind
invariant-loop-kind l = IsClear (map facts_of l.services) l.tree (facts_of l.shape) (l.kind-index + 1)
