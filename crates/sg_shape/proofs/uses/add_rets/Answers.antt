-- Prototype by prototype.
use Rattle.std.proofs.Common.{◌∙◌, ap}
use Rattle.sg_shape.specs.Fields.{ret_use}
use Rattle.sg_shape.specs.Prototypes.{Prototype}
use Rattle.sg_shape.proofs.Loops.{gained}
use Rattle.sg_shape.proofs.uses.add_rets.Goals as goal

pub protos-preserved : goal.protos-preserved
protos-preserved c =
    gained (λ (p : Prototype). ret_use p.ret) c.args.protos.now c.protos.proto-index c.proto-item.result c.ret_use.result c.args.uses.now c.protos.uses c.add.new.list
    c.protos-test.true c.proto-item.is (c.ret_use.ensures ∙ ap ret_use c.ret.ensures) c.protos.invariant c.in_ok-add.ensures
