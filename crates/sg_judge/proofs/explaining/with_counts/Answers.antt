-- The counts stand after what is told of the interface.
use Rattle.sg_judge.proofs.explaining.with_counts.Goals as goal

pub returns : goal.returns
returns c = (c.in_ok-told.told, c.in_ok-told.ensures, c.in_ok-put_counts.ensures)
