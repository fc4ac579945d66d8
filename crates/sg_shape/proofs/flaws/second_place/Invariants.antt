-- None so far has the name of one before it.
use Rattle.std.proofs.Common.{◌≡◌, [], drop, take}
use Rattle.sg_shape.specs.Flaws.{second_place}
use Rattle.sg_shape.specs.Prototypes.{names_of}
use Rattle.sg_shape.proofs.flaws.second_place.Given as goal

abbrev pub invariant-protos : goal.invariant-protos
invariant-protos l = second_place (names_of (take l.number l.protos)) (drop l.number l.protos) ≡ second_place [] l.protos
