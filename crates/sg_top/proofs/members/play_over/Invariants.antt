-- The descriptions are those of the members.
use Rattle.sg_multi.specs.Beginning.{description_at}
use Rattle.sg_top.proofs.members.play_over.Given as goal

abbrev pub ghosts-play_picked : goal.ghosts-play_picked
ghosts-play_picked a = record { descriptions = description_at a.members.now }
