-- Leaving changes no call.
use Rattle.std.proofs.Common.{ap}
use Rattle.sg_world.specs.Worlded.{Worlded, setting_of}
use Rattle.sg_play.proofs.Turning.{stepped_left}
use Rattle.sg_play.proofs.turn.leave_if_done.Goals as goal

pub returns-then-is_none-clause-playing : goal.returns-then-is_none-clause-playing
returns-then-is_none-clause-playing g c = λ all is.
    stepped_left (setting_of g.S.Service.ask g.S.Service.sound g.S.Service.parts c.args.world.now.tables) c.args.script.now c.args.world.now.view all c.args.client c.requires.client.0 c.requires.client.1 c.requires.idle
    c.leave.new.self.view (ap (λ (x : Worlded). x.view) c.leave.ensures) is
