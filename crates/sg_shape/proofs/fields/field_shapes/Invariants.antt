-- The fields of the uses so far.
use Rattle.std.proofs.Common.{◌≡◌, map, take}
use Rattle.sg_shape.specs.Fields.{field_at}
use Rattle.sg_shape.specs.Inside.Parts.{fields_in}
use Rattle.sg_shape.proofs.fields.field_shapes.Given as goal

abbrev pub invariant-uses : goal.invariant-uses
invariant-uses l = fields_in l.fields.items ≡ map field_at (take l.one-index l.uses)
