-- All that descriptors can come to is in the set.
use Rattle.std.proofs.Common.{subst}
use Rattle.sg_stub.specs.Inside.Triples.{SameTriples}
use Rattle.sg_stub.proofs.Before.{made_within}
use Rattle.sg_stub.proofs.TripleSets.{reached_in}
use Rattle.sg_stub.proofs.compiling.compile.Goals as goal

pub lines_of-requires-clause-triples : goal.lines_of-requires-clause-triples
lines_of-requires-clause-triples c =
    let i = c.interface-iface.result.now in
    reached_in i c.in_ok-triples.triples c.in_ok-set.set (subst (λ l. SameTriples l c.in_ok-set.set) c.as_slice.ensures c.in_ok-set.ensures) c.in_ok-triples.ensures.only
    (λ t reached. c.in_ok-triples.ensures.all t (made_within i c.interface-iface.ensures.fits c.interface-iface.ensures.small t.made t.state reached.0 reached.2).1 reached)
