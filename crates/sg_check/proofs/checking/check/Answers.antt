-- At most one thing is first wrong, and an accepted text has nothing wrong.
use Rattle.std.proofs.Common.{map}
use Rattle.sg_check_statements.specs.sg_facts.Facts.{facts_of}
use Rattle.sg_check_statements.specs.Faults.{IsAccepted}
use Rattle.sg_check.proofs.Stages.{told_fault}
use Rattle.sg_check.proofs.checking.check.Goals as goal

pub returns-clause-fault : goal.returns-clause-fault
returns-clause-fault c = told_fault (map facts_of c.args.shapes.now) c.args.tree.now c.accept.result (IsAccepted (map facts_of c.args.shapes.now) c.args.tree.now) c.accept.ensures
    (λ a good kind at is. good.none kind at is.here)
