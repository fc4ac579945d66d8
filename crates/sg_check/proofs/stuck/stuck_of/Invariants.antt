-- What was found of the triples so far.
use Rattle.std.proofs.Common.{take}
use Rattle.sg_check.specs.Inside.Stuck.{HasSought}
use Rattle.sg_check.proofs.stuck.stuck_of.Given as goal

abbrev pub invariant-triples : goal.invariant-triples
invariant-triples l = HasSought l.iface (take l.triple-index l.triples) l.stuck
