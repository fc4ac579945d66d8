-- A client may take a turn in a play where it may in the play without stops, and a client of the play can step there.
use Rattle.std.proofs.Common.{◌≡◌, ◌∙◌, ap, sym, subst}
use Rattle.sg_play.proofs.Following.Turns.{turns_alike, turns_beyond}
use Rattle.sg_play.specs.sg_plain.Playing.Turns.{may_go, may_take_turn}
use Rattle.sg_play.specs.sg_clients.WorldView.{seat_of}
use Rattle.sg_sim.proofs.AnyTurn.{can_not, can_so}
use Rattle.sg_sim.specs.Inside.Givens.{lists_of}
use Rattle.sg_sim.specs.Inside.Keeps.{KeepsPlay}
use Rattle.sg_sim.specs.Playing.{Playing}
use Rattle.sg_play.specs.sg_world.Worlded.{setting_of}
use Rattle.sg_sim.proofs.play.Play.can_go.Goals as goal

pub returns-then-not-has-clause-can : goal.returns-then-not-has-clause-can
returns-then-not-has-clause-can g c = can_not c.args.self.now c.args.client (c.has.ensures.beyond c.if-not-has.true)

pub returns-then-not-has-clause-may : goal.returns-then-not-has-clause-may
returns-then-not-has-clause-may g c = λ first.
    let p = c.args.self.now in
    sym (turns_beyond p.script p.view p.passed p.last c.args.client (c.has.ensures.beyond c.if-not-has.true first))

pub returns-clause-may : goal.returns-clause-may
returns-clause-may g c = λ first.
    let p = c.args.self.now in
    let keeps = subst (λ (q : Playing). KeepsPlay (setting_of g.S.Service.ask g.S.Service.sound g.S.Service.parts q.tables) q.script q.view (lists_of c.self.inside.given) q.passed q.last q.in_order) c.self.view_is c.self.invariant in
    let phase = c.phase.ensures.phase ∙ ap (λ (q : Playing). (seat_of q.view c.args.client).phase) c.self.view_is in
    c.may_go.ensures ∙ ap (λ ph. may_go ph c.has_more.result) phase ∙ ap (may_go (seat_of p.view c.args.client).phase) c.has_more.ensures
    ∙ sym (turns_alike p.tables.iface p.script p.view (lists_of c.self.inside.given) keeps.playing p.passed p.last c.args.client first ((c.has.ensures.client c.if-not-has.false).1))

pub returns-clause-can : goal.returns-clause-can
returns-clause-can g c =
    let p = c.args.self.now in
    let phase = c.phase.ensures.phase ∙ ap (λ (q : Playing). (seat_of q.view c.args.client).phase) c.self.view_is in
    let goes : c.may_go.result ≡ may_take_turn p.script c.args.client (seat_of p.view c.args.client)
    = c.may_go.ensures ∙ ap (λ ph. may_go ph c.has_more.result) phase ∙ ap (may_go (seat_of p.view c.args.client).phase) c.has_more.ensures in
    can_so p c.args.client ((c.has.ensures.client c.if-not-has.false).0) ((c.has.ensures.client c.if-not-has.false).1) c.may_go.result goes
