-- By bytes.
use Rattle.sg_check_statements.proofs.Sets.{has_it}
use Rattle.sg_check_statements.proofs.names.NameSet.has.Goals as goal

pub returns : goal.returns
returns c = has_it c.self.inside.names.keys c.args.self.now c.args.name.now c.contains.result c.contains.ensures c.self.view_is
