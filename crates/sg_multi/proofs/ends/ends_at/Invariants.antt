-- The ends so far, as the member knows them.
use Rattle.std.proofs.Common.{◌≡◌, take}
use Rattle.sg_multi.specs.Ends.{ends_at}
use Rattle.sg_multi.proofs.ends.ends_at.Given as goal

abbrev pub invariant-ends : goal.invariant-ends
invariant-ends l = l.known ≡ ends_at l.member (take l.pair-index l.ends)
