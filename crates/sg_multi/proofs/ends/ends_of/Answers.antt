-- One client's end more, and all of them.
use Rattle.std.proofs.Common.{◌∙◌, ◌++◌, ◌+◌, ap, sym}
use Rattle.sg_multi.specs.sg_sim.Inside.Givens.{lists_of}
use Rattle.sg_multi.specs.Inside.Turns.{end_by}
use Rattle.sg_multi.proofs.EndLists.{ends_more}
use Rattle.sg_multi.proofs.ends.ends_of.Goals as goal

pub clients-preserved : goal.clients-preserved
clients-preserved g c =
    let r = c.args.running.now in
    c.in_ok-add_end.ensures ∙ ap (λ l. l ++ end_by r.members c.args.script.now (lists_of r.given) (c.clients.before + 1)) c.clients.invariant
    ∙ sym (ends_more r.members c.args.script.now (lists_of r.given) c.clients.before)
