-- The services but that of events declare all of their shapes.
use Rattle.sg_load.proofs.Services.{standard_is}
use Rattle.sg_load.proofs.kind.ServiceKind.standard_interface.Goals as goal

pub returns-in-Locks : goal.returns-in-Locks
returns-in-Locks c = standard_is c.args.self c.shape-shape.result c.in-Locks.is c.shape-shape.ensures c.declaring-in-Locks.result c.declaring-in-Locks.ensures
