use Rattle.std.proofs.Common.{length}
use Rattle.sg_track.proofs.draft.+draft_each.Given as goal

abbrev pub decreases-draft_each : goal.decreases-draft_each
decreases-draft_each l = length l.effects.now
