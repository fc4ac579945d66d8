-- Which members had a `stop` is kept.
use Rattle.std.proofs.Common.{sym, ◌∙◌, ap}
use Rattle.sg_script.specs.Inside.Parts.{comes_again}
use Rattle.sg_script.proofs.Stops.{had}
use Rattle.sg_script.proofs.front.SeenParts.comes_again.Goals as goal

pub returns-in-Stop : goal.returns-in-Stop
returns-in-Stop c = λ parts is.
    c.had_stop.ensures ∙ had c.args.members.now c.args.self.now parts c.in-Stop.service c.requires is ∙ ap (comes_again c.args.members.now parts) (sym c.in-Stop.is)
