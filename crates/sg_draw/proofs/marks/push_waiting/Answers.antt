-- One bar more shows no text.
use Rattle.sg_draw.proofs.Documents.{still, then}
use Rattle.sg_draw.proofs.marks.push_waiting.Goals as goal

pub lanes-init : goal.lanes-init
lanes-init c = still c.args.out.now

pub lanes-preserved : goal.lanes-preserved
lanes-preserved c = then c.lanes.invariant c.in_ok-push_bar.ensures
