-- The effects so far, and those on what is left.
use Rattle.std.proofs.Common.{◌≡◌, ◌++◌, drop}
use Rattle.sg_shape.specs.Inside.Parts.{fields_in}
use Rattle.sg_shape.specs.ShapeOfText.{numbered}
use Rattle.sg_shape.proofs.effects.numbered.Given as goal

abbrev pub invariant-fields : goal.invariant-fields
invariant-fields l = record {
  number : l.number ≡ l.field-index;
  told : l.list.items ++ numbered l.number (fields_in (drop l.field-index l.fields)) l.effects ≡ numbered 0 (fields_in l.fields) l.effects;
}
