-- The uses of the parameters so far.
use Rattle.std.proofs.Common.{◌≡◌, ◌++◌, take}
use Rattle.std.specs.List.{filter_map}
use Rattle.sg_shape.specs.Fields.{param_use}
use Rattle.sg_shape.proofs.uses.add_of_proto.Given as goal

abbrev pub invariant-params : goal.invariant-params
invariant-params l = l.uses ≡ l.fn.uses ++ filter_map param_use (take l.param-index l.params)
