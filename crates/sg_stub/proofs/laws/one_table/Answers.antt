-- Lines ascend, and each has the least walk.
use Rattle.sg_stub.proofs.OneTable.{one_table}
use Rattle.sg_stub.proofs.laws.one_table.Goals as goal

pub returns : goal.returns
returns c = one_table
