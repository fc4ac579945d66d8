-- The next after the client of the last turn, and then from 1 on.
use Rattle.std.proofs.Common.{◌≡◌, ◌∙◌, length, ap, subst, sym}
use Rattle.sg_play.specs.Following.Stages.{IsNextTurn}
use Rattle.sg_sim.proofs.Turning.{from_around, from_after, nobody}
use Rattle.sg_sim.specs.Inside.Next.{IsFirstAfter, NoneAfter, stage_now}
use Rattle.sg_sim.specs.Inside.Givens.{lists_of}
use Rattle.sg_sim.specs.Inside.Keeps.{KeepsPlay}
use Rattle.sg_sim.specs.Playing.{Playing}
use Rattle.sg_play.specs.sg_world.Worlded.{setting_of}
use Rattle.sg_sim.proofs.play.Play.next_in_circle.Goals as goal

pub returns-in-Some-clause-next : goal.returns-in-Some-clause-next
returns-in-Some-clause-next g c =
    let p = c.args.self.now in
    let last : c.self.inside.last ≡ p.last = ap (λ (q : Playing). q.last) c.self.view_is in
    let passed = c.len-passed.ensures ∙ ap (λ (q : Playing). length q.script.schedule) c.self.view_is in
    let found = subst (λ n. IsFirstAfter p n (length p.view.seats) c.in-Some.client) last (subst (λ n. IsFirstAfter p c.self.inside.last n c.in-Some.client) c.clients.ensures c.in-Some.ensures.some) in
    subst (IsNextTurn p.script (stage_now p) c.in-Some.client) (sym passed) (from_after p c.requires.settled c.requires.unscheduled c.in-Some.client found)

pub returns-in-Some-next_after-clause-next : goal.returns-in-Some-next_after-clause-next
returns-in-Some-next_after-clause-next g c =
    let p = c.args.self.now in
    let last : c.self.inside.last ≡ p.last = ap (λ (q : Playing). q.last) c.self.view_is in
    let passed = c.len-passed.ensures ∙ ap (λ (q : Playing). length q.script.schedule) c.self.view_is in
    let behind = subst (λ n. NoneAfter p n (length p.view.seats)) last (subst (λ n. NoneAfter p c.self.inside.last n) c.clients.ensures (c.next_after.ensures.none c.in_default.is)) in
    let found = subst (λ n. IsFirstAfter p 0 n c.in-Some-next_after.client) last c.in-Some-next_after.ensures.some in
    subst (IsNextTurn p.script (stage_now p) c.in-Some-next_after.client) (sym passed) (from_around p c.requires.settled c.requires.unscheduled behind c.in-Some-next_after.client found)

pub returns-in-None-clause-over : goal.returns-in-None-clause-over
returns-in-None-clause-over g c = λ none client first within.
    let p = c.args.self.now in
    let last : c.self.inside.last ≡ p.last = ap (λ (q : Playing). q.last) c.self.view_is in
    let keeps = subst (λ (q : Playing). KeepsPlay (setting_of g.S.Service.ask g.S.Service.sound g.S.Service.parts q.tables) q.script q.view (lists_of c.self.inside.given) q.passed q.last q.in_order) c.self.view_is c.self.invariant in
    let behind = subst (λ n. NoneAfter p n (length p.view.seats)) last (subst (λ n. NoneAfter p c.self.inside.last n) c.clients.ensures (c.next_after.ensures.none c.in_default.is)) in
    let around = subst (NoneAfter p 0) last (c.next_after-2.ensures.none c.in-None.is) in
    nobody p.tables.iface p (lists_of c.self.inside.given) keeps.playing behind around client first within
