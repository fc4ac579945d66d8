-- The service is the one of this description.
use Rattle.sg_multi.specs.sg_interpret.sg_described.Described.{described_of}
use Rattle.sg_top.proofs.own.explore_own.Given as goal

abbrev pub ghosts-explore_picked : goal.ghosts-explore_picked
ghosts-explore_picked g a = record { descriptions = λ _. described_of a.description }
