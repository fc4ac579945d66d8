-- The place of the call is noted, and the others stay.
use Rattle.sg_draw.proofs.places.note.Goals as goal

pub returns-in-Ok : goal.returns-in-Ok
returns-in-Ok c = λ client seq. c.in-Ok.ensures.updates.0 (client, seq)
