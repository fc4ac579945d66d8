-- The service is the one of this description.
use Rattle.sg_multi.specs.sg_interpret.sg_described.Described.{described_of}
use Rattle.sg_top.proofs.own.share_own.Given as goal

abbrev pub ghosts-share_picked : goal.ghosts-share_picked
ghosts-share_picked g a = record { descriptions = λ _. described_of a.description }
