-- A text that has this fault is of a service.
use Rattle.std.proofs.Common.{map, sym}
use Rattle.sg_input.specs.sg_facts.Facts.{facts_of}
use Rattle.sg_explain.proofs.Protos.{has_service}
use Rattle.sg_explain.proofs.stuck.put_stuck.Goals as goal

pub put_stuck_of-requires-clause-service : goal.put_stuck_of-requires-clause-service
put_stuck_of-requires-clause-service c = sym c.in-Some.ensures

pub unreachable-requires : goal.unreachable-requires
unreachable-requires c = has_service (map facts_of c.args.shapes.now) c.args.tree.now c.args.at c.requires.fault.here (sym c.in-None.ensures)
