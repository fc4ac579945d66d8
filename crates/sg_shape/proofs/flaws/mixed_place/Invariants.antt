-- No use so far is mixed.
use Rattle.std.proofs.Common.{◌≡◌, None, take}
use Rattle.std.specs.Prelude.{find}
use Rattle.sg_shape.specs.Flaws.{is_mixed}
use Rattle.sg_shape.specs.Inside.Parts.{fields_in}
use Rattle.sg_shape.proofs.flaws.mixed_place.Given as goal

abbrev pub invariant-uses : goal.invariant-uses
invariant-uses l = find (is_mixed (fields_in l.fields)) (take l.one-index l.uses) ≡ None
