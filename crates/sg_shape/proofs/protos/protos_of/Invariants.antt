-- The prototypes so far.
use Rattle.std.proofs.Common.{◌≡◌, take}
use Rattle.std.specs.List.{filter_map}
use Rattle.sg_shape.specs.Prototypes.{proto_in}
use Rattle.sg_shape.proofs.protos.protos_of.Given as goal

abbrev pub invariant-statements : goal.invariant-statements
invariant-statements l = l.protos ≡ filter_map proto_in (take l.statement-index l.statements)
