-- A timer with a tag stands for a row with it.
use Rattle.std.proofs.Common.{◌∙◌}
use Rattle.sg_timer.proofs.Ordered.{tag_taken}
use Rattle.sg_timer.proofs.service.is_taken.Goals as goal

pub returns : goal.returns
returns c = c.has.ensures ∙ tag_taken c.args.queue.now.entries c.args.tag
