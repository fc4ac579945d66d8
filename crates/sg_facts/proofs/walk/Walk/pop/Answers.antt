use Rattle.std.proofs.Common.{arith}
use Rattle.sg_facts.proofs.WalkLists.{rest-popped}
use Rattle.sg_facts.proofs.walk.Walk.pop.Goals as goal

pub invariant_of-self : goal.invariant_of-self
invariant_of-self c = rest-popped c.self.inside.funs c.self.inside.len (omega arith) c.self.invariant.0 c.self.invariant.1 c.self.invariant.2
