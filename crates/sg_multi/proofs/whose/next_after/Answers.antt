-- One client more can't take a turn.
use Rattle.std.proofs.Common.{◌∙◌, sym}
use Rattle.sg_multi.proofs.EndLists.{none_more}
use Rattle.sg_multi.proofs.whose.next_after.Goals as goal

pub clients-preserved : goal.clients-preserved
clients-preserved g c = none_more c.args.script.now c.args.running.now c.args.behind c.clients.before c.clients.invariant (sym c.can_go.ensures ∙ c.if-can_go.false)
