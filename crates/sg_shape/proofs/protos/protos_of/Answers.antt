-- Statement by statement.
use Rattle.std.proofs.Common.{[]}
use Rattle.sg_shape.specs.Prototypes.{proto_in}
use Rattle.sg_shape.proofs.Loops.{gained}
use Rattle.sg_shape.proofs.protos.protos_of.Goals as goal

pub statements-preserved : goal.statements-preserved
statements-preserved c =
    gained proto_in c.args.statements.now c.statements.statement-index c.statement-item.result c.proto_in.result [] c.statements.protos c.add.new.list
    c.statements-test.true c.statement-item.is c.proto_in.ensures c.statements.invariant c.in_ok-add.ensures
