-- One turn more of the setup.
use Rattle.std.proofs.Common.{rules, subst₂}
use Rattle.sg_facts.specs.Tables.{Compiled}
use Rattle.sg_play.specs.sg_script.declared.script.Script.{Script}
use Rattle.sg_play.specs.sg_world.Worlded.{setting_of}
use Rattle.sg_play.specs.sg_world_laws.Setting.{Setting}
use Rattle.sg_sim.proofs.Turns.{turn_more}
use Rattle.sg_sim.specs.Playing.{IsTurnOf}
use Rattle.sg_sim.proofs.play.Play.setup.Goals as goal

pub loop-preserved : goal.loop-preserved
loop-preserved g c =
    let begun = c.args.self.now in
    let x = c.loop.self in
    let now = c.take.new.self.view in
    let is = c.loop.invariant in
    let taken = c.in_ok-take.ensures in
    let client = c.setup_turn-turn.result.client in
    let z : Setting = setting_of g.S.Service.ask g.S.Service.sound g.S.Service.parts begun.tables in
    let turn : IsTurnOf z begun.script x.view client now = subst₂ (λ (t : Compiled) (s : Script). IsTurnOf (setting_of g.S.Service.ask g.S.Service.sound g.S.Service.parts t) s x.view client now) is.0 is.1 taken.steps in
    (search rules, search rules, search rules, search rules, search rules, search rules, search rules, search rules, turn_more z begun.script client begun.view x.view now is.8 turn)
