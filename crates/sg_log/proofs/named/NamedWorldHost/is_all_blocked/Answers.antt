-- Who waits asks, in a call that has no answer.
use Rattle.std.proofs.Common.{◌≡◌, ◌≤◌, true, true≢false, sym, ap, ◌∙◌, subst}
use Rattle.sg_turn.specs.sg_facts.Tables.{Compiled}
use Rattle.sg_turn.specs.Told.{entries_in}
use Rattle.sg_world.specs.sg_clients.WorldView.{is_offered, seat_of}
use Rattle.sg_world.specs.sg_clients.declared.phase.Phase.TheVariants.{Blocked}
use Rattle.sg_log.specs.Log.{log_of}
use Rattle.sg_log.specs.Names.{HasNoAnswer}
use Rattle.sg_log.proofs.Stepping.{stands_under}
use Rattle.sg_log.proofs.Worlds.{all_rest, history_told}
use Rattle.sg_log.proofs.named.NamedWorldHost.is_all_blocked.Goals as goal
use Rattle.sg_log.proofs.named.NamedWorldHost.is_all_blocked.Goals.{in-Blocked, in_default}

pub returns-then-matches-clause-waits : goal.returns-then-matches-clause-waits
returns-then-matches-clause-waits g c = λ _.
    let n = c.args.self.now in
    let last = subst (λ k. c.args.client ≤ k) (sym (n.seats ∙ n.count)) c.requires.last in
    let told = c.marks-told.ensures.told in
    let blocked : c.phase.result ≡ Blocked = elim c.match-matches.branch [ in-Blocked w ↦ w.in-Blocked.is | in_default w ↦ absurd (true≢false (sym c.if-matches.true ∙ w.matches-is)) ] in
    let off = ap is_offered (sym c.phase.ensures.phase ∙ blocked) in (
      (seat_of n.world.view c.args.client).call,
      stands_under n.world.view c.args.client c.requires.first last told off,
      subst (λ (t : Compiled). HasNoAnswer t.iface g.S.Service.ask (entries_in (log_of n.world.view)) (seat_of n.world.view c.args.client).call) n.tables
          (subst (λ h. HasNoAnswer n.world.tables.iface g.S.Service.ask h (seat_of n.world.view c.args.client).call) (sym (history_told n.world.view told)) (c.phase.ensures.waits blocked)),
    )

pub returns-then-matches-clause-rest : goal.returns-then-matches-clause-rest
returns-then-matches-clause-rest g c = λ e. all_rest c.args.self.now.world.view.seats (sym c.all_blocked.ensures ∙ e)
