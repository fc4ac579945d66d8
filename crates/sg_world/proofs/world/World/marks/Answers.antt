-- The marks tell all.
use Rattle.std.proofs.Common.{subst}
use Rattle.sg_world.specs.Marked.{TellsAll}
use Rattle.sg_world.specs.Worlded.{Worlded}
use Rattle.sg_world.proofs.world.World.marks.Goals as goal

pub returns-clause-told : goal.returns-clause-told
returns-clause-told g c = subst (λ (y : Worlded). TellsAll y.view) c.self.view_is c.self.invariant.0.world.marked
