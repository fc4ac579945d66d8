-- The setup's turns are those of client 1.
use Rattle.std.proofs.Common.{◌∙◌, sym}
use Rattle.sg_multi.proofs.NextTurn.{from_setup}
use Rattle.sg_multi.proofs.Turning.{first_there}
use Rattle.sg_multi.proofs.whose.next_turn.Goals as goal

pub returns-then-is_setting_up-clause-last : goal.returns-then-is_setting_up-clause-last
returns-then-is_setting_up-clause-last g c = first_there c.args.script.now c.args.running.now c.requires.keeps

pub returns-then-is_setting_up-clause-next : goal.returns-then-is_setting_up-clause-next
returns-then-is_setting_up-clause-next g c = from_setup c.args.script.now c.args.running.now c.requires.keeps (sym c.is_setting_up.ensures ∙ c.if-is_setting_up.true)
