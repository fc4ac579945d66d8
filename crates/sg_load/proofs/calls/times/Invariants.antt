-- The calls so far.
use Rattle.std.proofs.Common.{◌≡◌, []}
use Rattle.std.specs.Prelude.{replicate}
use Rattle.sg_load.specs.Services.{call}
use Rattle.sg_load.proofs.calls.times.Given as goal

abbrev pub invariant-each : goal.invariant-each
invariant-each l = l.calls ≡ replicate l.done (call l.fun [])
