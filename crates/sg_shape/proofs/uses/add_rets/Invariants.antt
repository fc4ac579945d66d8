-- The uses of the prototypes so far.
use Rattle.std.proofs.Common.{◌≡◌, ◌++◌, take}
use Rattle.std.specs.List.{filter_map}
use Rattle.sg_shape.specs.Fields.{ret_use}
use Rattle.sg_shape.proofs.uses.add_rets.Given as goal

abbrev pub invariant-protos : goal.invariant-protos
invariant-protos l = l.uses ≡ l.fn.uses ++ filter_map (λ p. ret_use p.ret) (take l.proto-index l.protos)
