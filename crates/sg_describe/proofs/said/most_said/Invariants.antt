-- No statement so far says the greatest number.
use Rattle.std.proofs.Common.{◌≡◌, [], take}
use Rattle.std.specs.List.{filter_map}
use Rattle.sg_describe.specs.Said.{most_in}
use Rattle.sg_describe.proofs.said.most_said.Given as goal

abbrev pub invariant-statements : goal.invariant-statements
invariant-statements l = filter_map (most_in l.field) (take l.statement-index l.statements) ≡ []
