use Rattle.std.proofs.Common.{length}
use Rattle.sg_entries.proofs.shown.+is_shown_among.Given as goal

-- the rest of the list is shorter
abbrev pub decreases-is_shown_among : goal.decreases-is_shown_among
decreases-is_shown_among l = length l.funs.now
