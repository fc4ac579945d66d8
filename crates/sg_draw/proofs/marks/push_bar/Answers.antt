-- A bar shows no text.
use Rattle.sg_draw.proofs.Documents.{still}
use Rattle.sg_draw.proofs.marks.push_bar.Goals as goal

pub returns-in-None : goal.returns-in-None
returns-in-None c = still c.args.out.now
