-- The functions of the prototypes so far.
use Rattle.std.proofs.Common.{◌≡◌, map, take}
use Rattle.sg_check_statements.specs.sg_facts.Facts.{fun_of_shape}
use Rattle.sg_shape.specs.ShapeOfText.{function_of}
use Rattle.sg_shape.proofs.funs.fun_shapes.Given as goal

abbrev pub invariant-protos : goal.invariant-protos
invariant-protos l = map fun_of_shape l.funs.items ≡ map (function_of l.statements) (take l.proto-index l.protos)
