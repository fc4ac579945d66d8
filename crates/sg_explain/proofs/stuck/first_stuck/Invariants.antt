-- The first of the triples so far.
use Rattle.std.proofs.Common.{take}
use Rattle.sg_explain.specs.Inside.Search.{IsFirstOf}
use Rattle.sg_explain.proofs.stuck.first_stuck.Given as goal

abbrev pub invariant-triples : goal.invariant-triples
invariant-triples l = IsFirstOf l.iface l.state (take l.triple-index l.triples) l.first
