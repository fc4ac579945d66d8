-- The uses of the prototypes so far.
use Rattle.std.proofs.Common.{◌≡◌, ◌++◌, take}
use Rattle.std.specs.List.{filter_map, flat_map}
use Rattle.sg_shape.specs.Fields.{param_use}
use Rattle.sg_shape.proofs.uses.add_params.Given as goal

abbrev pub invariant-protos : goal.invariant-protos
invariant-protos l = l.uses ≡ l.fn.uses ++ flat_map (λ p. filter_map param_use p.params) (take l.proto-index l.protos)
