-- The line tells the fault that is first in the tree.
use Rattle.sg_input.proofs.Said.{says_fault}
use Rattle.sg_input.proofs.judging.unaccepted_line.Goals as goal

pub returns-in-Fault : goal.returns-in-Fault
returns-in-Fault c = says_fault c.args.text.now c.args.error c.in-Fault.fault c.refusal.result c.in-Fault.is c.refusal.ensures
