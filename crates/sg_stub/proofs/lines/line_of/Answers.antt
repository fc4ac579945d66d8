-- Some walk stands there.
use Rattle.sg_stub.proofs.lines.line_of.Goals as goal

pub unreachable-requires : goal.unreachable-requires
unreachable-requires c = cc (c.get.ensures.at, c.requires.stands.1, c.in-None.is)
