use Rattle.std.proofs.Common.{length}
use Rattle.sg_entries.proofs.shown.+is_shown_by.Given as goal

-- the rest of the list is shorter
abbrev pub decreases-is_shown_by : goal.decreases-is_shown_by
decreases-is_shown_by l = length l.shapes.now
