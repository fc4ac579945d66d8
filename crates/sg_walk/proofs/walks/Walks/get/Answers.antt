-- What stands in a list of least walks is the least walk.
use Rattle.sg_walk.proofs.LookedUp.{least_at, none_at}
use Rattle.sg_walk.proofs.walks.Walks.get.Goals as goal

pub returns-clause-least : goal.returns-clause-least
returns-clause-least c = λ i are. least_at i c.args.self.now c.args.made c.args.state c.args.mask c.at.result are c.at.ensures

pub returns-clause-none : goal.returns-clause-none
returns-clause-none c = λ i are. none_at i c.args.self.now c.args.made c.args.state c.args.mask c.at.result are c.at.ensures
