-- One turn more.
use Rattle.std.proofs.Common.{◌∙◌, subst₂}
use Rattle.sg_facts.specs.Tables.{Compiled}
use Rattle.sg_play.specs.sg_script.declared.script.Script.{Script}
use Rattle.sg_play.specs.sg_world.Worlded.{setting_of}
use Rattle.sg_play.specs.sg_world_laws.Setting.{Setting}
use Rattle.sg_sim.proofs.Turns.{turn_more}
use Rattle.sg_sim.specs.Playing.{IsTurnOf}
use Rattle.sg_sim.proofs.play.Play.come_to_end.Goals as goal

pub loop-preserved : goal.loop-preserved
loop-preserved g c =
    let begun = c.args.self.now in
    let x = c.loop.self in
    let now = c.take.new.self.view in
    let is = c.loop.invariant in
    let taken = c.in_ok-take-in-Some.ensures in
    let client = c.in-Some.turn.client in
    let z : Setting = setting_of g.S.Service.ask g.S.Service.sound g.S.Service.parts begun.tables in
    let turn : IsTurnOf z begun.script x.view client now = subst₂ (λ (t : Compiled) (s : Script). IsTurnOf (setting_of g.S.Service.ask g.S.Service.sound g.S.Service.parts t) s x.view client now) is.0 is.1 taken.steps in
    (taken.tables ∙ is.0, taken.script ∙ is.1, taken.plan ∙ is.2, taken.in_order ∙ is.3, turn_more z begun.script client begun.view x.view now is.4 turn)
