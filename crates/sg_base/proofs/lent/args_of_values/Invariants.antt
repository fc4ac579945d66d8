-- The first arguments are copied.
use Rattle.std.proofs.Common.{◌≡◌, take}
use Rattle.sg_base.proofs.lent.args_of_values.Given as goal

abbrev pub invariant-loop-value : goal.invariant-loop-value
invariant-loop-value l = l.args ≡ take l.value-index l.values
