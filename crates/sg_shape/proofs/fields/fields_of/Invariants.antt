-- The first uses so far, which are within the limit.
use Rattle.std.proofs.Common.{◌≡◌, ◌≤◌, length, take}
use Rattle.sg_check_statements.specs.sg_facts.Limits.{most_fields}
use Rattle.sg_shape.specs.Fields.{first_uses}
use Rattle.sg_shape.proofs.fields.fields_of.Given as goal

abbrev pub invariant-uses : goal.invariant-uses
invariant-uses l = record { first : l.first ≡ first_uses (take l.one-index l.uses); few : length l.first ≤ most_fields }
