use Rattle.std.proofs.Common.{length}
use Rattle.sg_report.proofs.printed.+blocked_among.Given as goal

abbrev pub decreases-blocked_among : goal.decreases-blocked_among
decreases-blocked_among l = length l.ends.now
