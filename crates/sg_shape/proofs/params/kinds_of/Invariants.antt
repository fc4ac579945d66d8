-- The kinds of the parameters so far.
use Rattle.std.proofs.Common.{◌≡◌, map, take}
use Rattle.sg_shape.specs.ShapeOfText.{kind_of}
use Rattle.sg_shape.proofs.params.kinds_of.Given as goal

abbrev pub invariant-params : goal.invariant-params
invariant-params l = l.kinds.items ≡ map kind_of (take l.param-index l.params)
