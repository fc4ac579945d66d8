-- Parameter by parameter.
use Rattle.sg_shape.specs.Fields.{param_use}
use Rattle.sg_shape.proofs.Loops.{gained}
use Rattle.sg_shape.proofs.uses.add_of_proto.Goals as goal

pub params-preserved : goal.params-preserved
params-preserved c =
    gained param_use c.args.params.now c.params.param-index c.param-item.result c.param_use.result c.args.uses.now c.params.uses c.add.new.list
    c.params-test.true c.param-item.is c.param_use.ensures c.params.invariant c.in_ok-add.ensures
