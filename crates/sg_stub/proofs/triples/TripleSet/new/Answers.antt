-- Triple by triple.
use Rattle.std.proofs.Common.{subst}
use Rattle.std.proofs.lemmas.List.{take_all}
use Rattle.sg_stub.specs.Inside.Triples.{SameTriples}
use Rattle.sg_stub.proofs.TripleSets.{one_in}
use Rattle.sg_stub.proofs.triples.TripleSet.new.Goals as goal

pub triples-preserved : goal.triples-preserved
triples-preserved c = one_in c.args.triples.now c.triples.triple-index _ c.triples-test.true c.triples.set.keys c.insert.new.self.keys c.triples.invariant c.in_ok-insert.ensures.updates.0

pub returns : goal.returns
returns c = subst (λ l. SameTriples l c.triples.set.keys) (take_all c.triples.triple-index c.args.triples.now c.triples-test.false) c.triples.invariant
