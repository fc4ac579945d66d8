-- Who may withdraw its call asks.
use Rattle.std.proofs.Common.{◌≤◌, sym, ap, ◌∙◌, subst, ⊎_elim}
use Rattle.sg_world.specs.sg_clients.WorldView.{is_offered, seat_of}
use Rattle.sg_log.proofs.Stepping.{stands_under}
use Rattle.sg_log.proofs.named.NamedWorldHost.may_withdraw.Goals as goal

pub returns-in-Asked-clause-asks : goal.returns-in-Asked-clause-asks
returns-in-Asked-clause-asks g c = λ _.
    let n = c.args.self.now in
    let last = subst (λ k. c.args.client ≤ k) (sym (n.seats ∙ n.count)) c.requires.last in
    let off = ⊎_elim (λ e. ap is_offered (sym c.phase.ensures.phase ∙ e)) (λ e. ap is_offered (sym c.phase.ensures.phase ∙ e)) c.in-Asked.is in
    ((seat_of n.world.view c.args.client).call, stands_under n.world.view c.args.client c.requires.first last c.marks-told.ensures.told off)
