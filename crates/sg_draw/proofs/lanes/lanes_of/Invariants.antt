-- The first clients have lanes.
use Rattle.std.proofs.Common.{◌≡◌, length}
use Rattle.sg_draw.proofs.lanes.lanes_of.Given as goal

abbrev pub invariant-loop-client : goal.invariant-loop-client
invariant-loop-client l = length l.lanes ≡ l.client-index
