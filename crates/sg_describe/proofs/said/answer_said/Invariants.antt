-- No statement so far says how the function answers.
use Rattle.std.proofs.Common.{◌≡◌, [], take}
use Rattle.std.specs.List.{filter_map}
use Rattle.sg_describe.specs.Said.{rules_in}
use Rattle.sg_describe.proofs.said.answer_said.Given as goal

abbrev pub invariant-statements : goal.invariant-statements
invariant-statements l = filter_map (rules_in l.fun) (take l.statement-index l.statements) ≡ []
