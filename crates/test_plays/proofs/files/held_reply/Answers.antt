use Rattle.std.proofs.Common.{refl}
use Rattle.test_plays.proofs.files.held_reply.Goals as goal

pub returns : goal.returns
returns c = record { play = record { turns = 12; over = refl; is = refl } }
