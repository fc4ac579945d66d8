-- A client with a call more can go where it doesn't wait in it.
use Rattle.std.proofs.Common.{◌∙◌, ◌-◌, false, not, ap, sym}
use Rattle.std.specs.Option.{option_map_or}
use Rattle.sg_multi.specs.sg_sim.sg_script.declared.multi.MultiCall.{MultiCall}
use Rattle.sg_multi.specs.sg_sim.sg_clients.WorldView.{is_blocked_phase}
use Rattle.sg_multi.specs.Inside.Whose.{seat_at}
use Rattle.sg_multi.proofs.Turning.{member_within, seats_there, some_member}
use Rattle.sg_multi.proofs.running.Running.can_go.Goals as goal

pub phase-requires-clause-some : goal.phase-requires-clause-some
phase-requires-clause-some g c =
    let r = c.args.self.now in
    some_member r.members c.args.script.now r.given r.order.items c.requires.keeps.keeps c.args.client c.requires.first c.requires.last c.in-Some.call.now (sym c.in-Some.ensures)

pub phase-requires-clause-there : goal.phase-requires-clause-there
phase-requires-clause-there g c =
    let r = c.args.self.now in
    member_within r.members c.args.script.now r.given r.order.items c.requires.keeps.keeps c.args.client c.requires.first c.requires.last c.in-Some.call.now (sym c.in-Some.ensures)

pub phase-requires-clause-client : goal.phase-requires-clause-client
phase-requires-clause-client g c = λ m there.
    let r = c.args.self.now in
    seats_there r.members c.args.script.now r.given r.order.items c.requires.keeps.keeps c.args.client c.requires.first c.requires.last (c.in-Some.call.now.member - 1) m there

pub returns-in-Some : goal.returns-in-Some
returns-in-Some g c =
    let r = c.args.self.now in
    ap not (c.waits.ensures ∙ ap is_blocked_phase c.phase.ensures)
    ∙ ap (λ o. option_map_or (λ (x : MultiCall). not (is_blocked_phase (seat_at r.members (x.member - 1) c.args.client).phase)) o false) c.in-Some.ensures

pub returns-in-None : goal.returns-in-None
returns-in-None g c =
    let r = c.args.self.now in
    ap (λ o. option_map_or (λ (x : MultiCall). not (is_blocked_phase (seat_at r.members (x.member - 1) c.args.client).phase)) o false) c.in-None.ensures
