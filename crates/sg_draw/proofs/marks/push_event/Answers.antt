-- The points have no marks.
use Rattle.sg_draw.proofs.Documents.{still}
use Rattle.sg_draw.proofs.marks.push_event.Goals as goal

pub returns-in-Points : goal.returns-in-Points
returns-in-Points c = still c.args.out.now
