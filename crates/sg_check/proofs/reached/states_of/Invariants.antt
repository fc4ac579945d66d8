-- The states of the triples so far.
use Rattle.std.proofs.Common.{take}
use Rattle.sg_check.specs.Inside.Reached.{AreStates}
use Rattle.sg_check.proofs.reached.states_of.Given as goal

abbrev pub invariant-triples : goal.invariant-triples
invariant-triples l = AreStates (take l.triple-index l.triples) l.states
