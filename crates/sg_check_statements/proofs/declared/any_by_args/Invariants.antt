-- None so far, and those that are left.
use Rattle.std.proofs.Common.{◌≡◌, ◌≤◌, drop}
use Rattle.std.specs.List.{list_any}
use Rattle.sg_check_statements.specs.Effects.{arg_effects}
use Rattle.sg_check_statements.proofs.declared.any_by_args.Given as goal

abbrev pub invariant-params : goal.invariant-params
invariant-params g l = (l.number ≤ l.param-index) × (list_any (g.T.Test.passes l.test) (arg_effects l.number (drop l.param-index l.params)) ≡ list_any (g.T.Test.passes l.test) (arg_effects 0 l.params))
