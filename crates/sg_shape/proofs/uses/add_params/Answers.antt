-- Prototype by prototype.
use Rattle.std.proofs.Common.{◌++◌, ◌∙◌, ap}
use Rattle.std.specs.List.{filter_map}
use Rattle.sg_shape.specs.Fields.{param_use}
use Rattle.sg_shape.specs.Prototypes.{Prototype}
use Rattle.sg_shape.proofs.Loops.{gained_all}
use Rattle.sg_shape.proofs.uses.add_params.Goals as goal

pub protos-preserved : goal.protos-preserved
protos-preserved c =
    gained_all (λ (p : Prototype). filter_map param_use p.params) c.args.protos.now c.protos.proto-index c.proto-item.result c.args.uses.now c.protos.uses c.add_of_proto.new.uses
    c.protos-test.true c.proto-item.is c.protos.invariant (c.in_ok-add_of_proto.ensures ∙ ap (λ l. c.protos.uses ++ filter_map param_use l) c.params.ensures)
