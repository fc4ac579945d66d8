-- The client's next call is offered, and the world keeps what it keeps.
use Rattle.std.proofs.Common.{◌≡◌, ◌+◌, ◌<◌, ◌≤◌, ◌++◌, ◌∷◌, [], length, Some, OnErr, sym, ◌∙◌, subst}
use Rattle.std.specs.Result.{OnOk}
use Rattle.sg_facts.specs.sg_base.declared.call.Call.{Call}
use Rattle.sg_log.specs.Log.{log_of}
use Rattle.sg_log.specs.sg_turn.Told.{HasNoCall, entries_by, mark_by, next_call, standing_in}
use Rattle.sg_log.specs.sg_turn.declared.log.LogMarkKind.TheVariants.{Offer}
use Rattle.sg_shared.proofs.Keeping.{free_seat, kept_happened, kept_offered}
use Rattle.sg_shared.specs.Inside.Keeping.{KeepsPlayed}
use Rattle.sg_sim.proofs.sg_play.Offering.{either_way}
use Rattle.sg_sim.specs.sg_play.NextCall.{IsNextCall}
use Rattle.sg_sim.specs.sg_plain.Calls.{call_after}
use Rattle.sg_sim.specs.sg_clients.WorldView.{seat_of}
use Rattle.sg_sim.specs.sg_world.Worlded.{Worlded, setting_of}
use Rattle.sg_sim.specs.sg_world_laws.Setting.{Setting}
use Rattle.sg_shared.proofs.world.PlayedWorldHost.offer.Goals as goal

pub invariant_of-self : goal.invariant_of-self
invariant_of-self g c =
    let n = c.self.inside.named in
    let w = n.world.view in
    let client = c.args.client in
    let z : Setting = setting_of g.S.Service.ask g.S.Service.sound g.S.Service.parts g.N.WorldNames.tables in
    let last : client ≤ length w.seats = subst (λ k. client ≤ k) (sym (n.seats ∙ n.count)) c.requires.last in
    let told = c.tell.ensures in
    let stood : HasNoCall (standing_in client (log_of w)) = subst (λ (y : Worlded). HasNoCall (standing_in client (log_of y.view))) (sym c.self.view_is) c.requires.free in
    let free = free_seat (standing_in client (log_of w)) (seat_of w client) (told.stands client (c.requires.first, last)) stood in
    let call : Call = next_call client (log_of w) c.args.fun c.args.desc c.args.args in
    let may : IsNextCall g.N.WorldNames.tables.iface g.N.Naming.script (entries_by client (log_of w)) call
    = subst (λ (y : Worlded). IsNextCall g.N.WorldNames.tables.iface g.N.Naming.script (entries_by client (log_of y.view)) (next_call client (log_of y.view) c.args.fun c.args.desc c.args.args)) (sym c.self.view_is) c.requires.may in
    let next = subst (λ es. call_after g.N.WorldNames.tables.iface.facts g.N.Naming.script w.history client (length es) ≡ Some call) (told.own client) (may.next w.history (sym (told.own client))) in
    either_way _ _ c.offer_call.result c.offer_call.ensures.ok c.offer_call.ensures.err
    (λ now. subst (KeepsPlayed z g.N.Naming.script) (sym now) (kept_offered z g.N.Naming.script w c.self.invariant client c.requires.first last free call next))
    (λ now. subst (KeepsPlayed z g.N.Naming.script) (sym now) (kept_happened z g.N.Naming.script w c.self.invariant))

pub offer_call-requires-clause-free : goal.offer_call-requires-clause-free
offer_call-requires-clause-free g c = subst (λ (y : Worlded). HasNoCall (standing_in c.args.client (log_of y.view))) (sym c.self.view_is) c.requires.free

pub offer_call-requires-clause-numbered : goal.offer_call-requires-clause-numbered
offer_call-requires-clause-numbered g c = subst (λ (y : Worlded). length (entries_by c.args.client (log_of y.view)) + 1 < 4294967296) (sym c.self.view_is) c.requires.numbered

pub returns-clause-ok : goal.returns-clause-ok
returns-clause-ok g c =
    subst (λ (y : Worlded). OnOk c.offer_call.result (log_of c.offer_call.new.self.world.view ≡ log_of y.view ++ mark_by c.args.client (Offer (next_call c.args.client (log_of y.view) c.args.fun c.args.desc c.args.args)) ∷ []))
    c.self.view_is c.offer_call.ensures.offers

pub returns-clause-err : goal.returns-clause-err
returns-clause-err g c = subst (λ (y : Worlded). OnErr c.offer_call.result (log_of c.offer_call.new.self.world.view ≡ log_of y.view)) c.self.view_is c.offer_call.ensures.same
