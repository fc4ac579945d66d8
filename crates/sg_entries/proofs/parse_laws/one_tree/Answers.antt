-- Reading the line has one end.
use Rattle.sg_entries.proofs.OneAnswer.{one_tree}
use Rattle.sg_entries.proofs.parse_laws.one_tree.Goals as goal

pub returns : goal.returns
returns c = one_tree
