-- What the runs of the members so far came to.
use Rattle.std.proofs.Common.{◌≡◌, length}
use Rattle.sg_multi.specs.Inside.Ended.{AreEnded}
use Rattle.sg_multi.proofs.play.ended_members.Given as goal

abbrev pub invariant-members : goal.invariant-members
invariant-members g l = (l.number ≡ l.member-index) × (length l.ended ≡ l.member-index) × AreEnded l.members l.ends l.ended
