-- Client by client.
use Rattle.std.proofs.Common.{length}
use Rattle.sg_script.proofs.making.+place_for.Given as goal

abbrev pub decreases-place_for : goal.decreases-place_for
decreases-place_for g l = length l.clients.now
