-- The triples so far.
use Rattle.std.proofs.Common.{take}
use Rattle.sg_stub.specs.Inside.Triples.{SameTriples}
use Rattle.sg_stub.proofs.triples.TripleSet.new.Given as goal

abbrev pub invariant-triples : goal.invariant-triples
invariant-triples l = SameTriples (take l.triple-index l.triples) l.set.keys
