-- The args so far.
use Rattle.std.proofs.Common.{◌≡◌, take}
use Rattle.sg_explore.proofs.scripts.copied_args.Given as goal

abbrev pub invariant-each : goal.invariant-each
invariant-each l = l.copy.items ≡ take l.arg-index l.args
