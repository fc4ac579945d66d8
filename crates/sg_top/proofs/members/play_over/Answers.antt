-- A description that is safe is what is made safe of it.
use Rattle.sg_multi.proofs.Picked.{are_picked}
use Rattle.sg_top.proofs.members.play_over.Goals as goal

pub play_picked-requires-clause-picked : goal.play_picked-requires-clause-picked
play_picked-requires-clause-picked c = are_picked c.args.members.now c.requires.services
