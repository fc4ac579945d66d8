-- No prototype so far has the flaw.
use Rattle.std.proofs.Common.{◌≡◌, None, take}
use Rattle.std.specs.Prelude.{find}
use Rattle.sg_check_statements.specs.sg_facts.Facts.{facts_of}
use Rattle.sg_shape.specs.Flaws.{is_flawed}
use Rattle.sg_shape.proofs.flaws.flawed_place.Given as goal

abbrev pub invariant-protos : goal.invariant-protos
invariant-protos l = find (is_flawed l.kind (facts_of l.shape) l.statements) (take l.proto-index l.protos) ≡ None
