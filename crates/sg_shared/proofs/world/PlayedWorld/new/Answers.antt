-- The script has a client, and the world is as it may be shared.
use Rattle.std.proofs.Common.{◌≤◌, sym, subst}
use Rattle.sg_shared.specs.Inside.Keeping.{KeepsPlayed}
use Rattle.sg_sim.proofs.Beginning.{clients_from_one}
use Rattle.sg_sim.specs.sg_world.Worlded.{Worlded, setting_of}
use Rattle.sg_sim.specs.sg_world_laws.Setting.{Setting}
use Rattle.sg_shared.proofs.world.PlayedWorld.new.Goals as goal

pub new-requires-clause-some : goal.new-requires-clause-some
new-requires-clause-some g c = subst (λ n. 1 ≤ n) (sym c.requires.clients) (clients_from_one 0 g.N.Naming.script.clients c.requires.goes.playable.clients)

pub invariant_of-result : goal.invariant_of-result
invariant_of-result g c =
    let z : Setting = setting_of g.S.Service.ask g.S.Service.sound g.S.Service.parts g.N.WorldNames.tables in
    subst (λ (w : Worlded). KeepsPlayed z g.N.Naming.script w.view) (sym c.new.ensures) (record { none_waits = c.requires.waits; goes = λ none. c.requires.goes; comes = c.requires.comes })
