-- The marks of the world tell all, so its log does.
use Rattle.sg_log.proofs.Worlds.{tells_world}
use Rattle.sg_log.proofs.named.NamedWorld.tell.Goals as goal

pub returns : goal.returns
returns g c = tells_world c.args.self.now.world.view c.marks-told.ensures.told
