-- Each call has fewer left.
use Rattle.std.proofs.Common.{◌-◌, length}
use Rattle.sg_safe.proofs.waiting.+overtaken_at_rules.Given as goal

abbrev pub decreases-overtaken_at_rules : goal.decreases-overtaken_at_rules
decreases-overtaken_at_rules l = length l.rules.now - l.at
