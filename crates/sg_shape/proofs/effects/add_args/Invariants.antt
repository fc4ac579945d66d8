-- The effects so far, and those of what is left.
use Rattle.std.proofs.Common.{◌≡◌, ◌≤◌, ◌++◌, drop}
use Rattle.sg_check_statements.specs.Effects.{arg_effects}
use Rattle.sg_shape.proofs.effects.add_args.Given as goal

abbrev pub invariant-params : goal.invariant-params
invariant-params l = record {
  number : l.number ≤ l.param-index;
  told : l.effects ++ arg_effects l.number (drop l.param-index l.params) ≡ l.fn.effects ++ arg_effects 0 l.params;
}
