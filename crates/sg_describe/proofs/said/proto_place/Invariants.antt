-- No statement so far is the prototype.
use Rattle.std.proofs.Common.{◌≡◌, [], take}
use Rattle.std.specs.List.{filter_map}
use Rattle.sg_describe.specs.Said.{proto_in}
use Rattle.sg_describe.proofs.said.proto_place.Given as goal

abbrev pub invariant-statements : goal.invariant-statements
invariant-statements l = filter_map (proto_in l.fun) (take l.statement-index l.statements) ≡ []
