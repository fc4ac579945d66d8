-- One client's end more, and all of them.
use Rattle.std.proofs.Common.{◌∙◌, ◌++◌, ◌+◌, ◌<◌, ap, sym, subst}
use Rattle.sg_play.specs.sg_clients.WorldView.{seat_of}
use Rattle.sg_sim.proofs.Ending.{next_end}
use Rattle.sg_sim.specs.Inside.Ends.{end_by}
use Rattle.sg_sim.proofs.play.Play.ends.Goals as goal

pub clients-preserved : goal.clients-preserved
clients-preserved g c =
    let p = c.args.self.now in
    c.in_ok-add_end.ensures ∙ ap (λ l. l ++ end_by p.script (c.clients.before + 1) (seat_of p.view (c.clients.before + 1))) c.clients.invariant
    ∙ sym (next_end p.script p.view.seats c.clients.before (subst (λ n. c.clients.before < n) c.clients-before-end.ensures c.clients-test.true))
