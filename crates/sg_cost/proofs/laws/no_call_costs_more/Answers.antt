-- No call costs more than is told of its function.
use Rattle.sg_cost.proofs.CallCosts.{within_told}
use Rattle.sg_cost.proofs.laws.no_call_costs_more.Goals as goal

pub returns : goal.returns
returns c = λ i walks o call sound fits. within_told i walks o call sound fits
