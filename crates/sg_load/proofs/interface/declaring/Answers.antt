-- So many functions of the shape are declared.
use Rattle.sg_load.proofs.Wholes.{declares_first}
use Rattle.sg_load.proofs.interface.declaring.Goals as goal

pub returns : goal.returns
returns c = declares_first c.args.shape c.args.count c.first_of-declared.result c.args.moves.now c.in_ok-moves.moves c.in_ok-steps.steps c.first_of-declared.ensures c.in_ok-moves.ensures c.in_ok-steps.ensures
