-- The interface can be recovered.
use Rattle.std.proofs.Common.{subst}
use Rattle.sg_world.specs.Worlded.{Worlded, setting_of}
use Rattle.sg_world_laws.specs.Setting.{IsSetting}
use Rattle.sg_world.proofs.world.World.interface.Goals as goal

pub returns-clause-set : goal.returns-clause-set
returns-clause-set g c = subst (λ (y : Worlded). IsSetting (setting_of g.S.Service.ask g.S.Service.sound g.S.Service.parts y.tables)) c.self.view_is c.self.invariant.0.world.set
