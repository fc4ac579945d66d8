-- So many empty lists.
use Rattle.std.proofs.Common.{◌≡◌, [], replicate}
use Rattle.sg_sim.specs.Inside.Givens.{lists_of}
use Rattle.sg_sim.proofs.given.Given.new.Given as goal

abbrev pub invariant-clients : goal.invariant-clients
invariant-clients l = lists_of l.lists.items ≡ replicate l.counter []
