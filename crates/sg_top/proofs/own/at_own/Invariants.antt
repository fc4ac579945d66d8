-- The service is the one of this description.
use Rattle.sg_multi.specs.sg_interpret.sg_described.Described.{described_of}
use Rattle.sg_top.proofs.own.at_own.Given as goal

abbrev pub ghosts-at_picked : goal.ghosts-at_picked
ghosts-at_picked g a = record { descriptions = λ _. described_of a.description }
