-- A client that has no call under way leaves, and the world keeps what it keeps.
use Rattle.std.proofs.Common.{◌≤◌, length, sym, ◌∙◌, subst}
use Rattle.sg_log.specs.Log.{log_of}
use Rattle.sg_log.specs.sg_turn.Hosts.{AddsLeave}
use Rattle.sg_log.specs.sg_turn.Told.{HasNoCall, standing_in}
use Rattle.sg_shared.proofs.Keeping.{free_seat, kept_left}
use Rattle.sg_shared.specs.Inside.Keeping.{KeepsPlayed}
use Rattle.sg_sim.specs.sg_clients.WorldView.{seat_of}
use Rattle.sg_sim.specs.sg_world.Worlded.{Worlded, setting_of}
use Rattle.sg_sim.specs.sg_world_laws.Setting.{Setting}
use Rattle.sg_shared.proofs.world.PlayedWorldHost.leave.Goals as goal

pub invariant_of-self : goal.invariant_of-self
invariant_of-self g c =
    let n = c.self.inside.named in
    let w = n.world.view in
    let client = c.args.client in
    let z : Setting = setting_of g.S.Service.ask g.S.Service.sound g.S.Service.parts g.N.WorldNames.tables in
    let last : client ≤ length w.seats = subst (λ k. client ≤ k) (sym (n.seats ∙ n.count)) c.requires.last in
    let stood : HasNoCall (standing_in client (log_of w)) = subst (λ (y : Worlded). HasNoCall (standing_in client (log_of y.view))) (sym c.self.view_is) c.requires.free in
    let free = free_seat (standing_in client (log_of w)) (seat_of w client) (c.tell.ensures.stands client (c.requires.first, last)) stood in
    subst (KeepsPlayed z g.N.Naming.script) (sym c.take_leave.ensures.view) (kept_left z g.N.Naming.script w c.self.invariant client c.requires.first last free)

pub take_leave-requires-clause-free : goal.take_leave-requires-clause-free
take_leave-requires-clause-free g c = subst (λ (y : Worlded). HasNoCall (standing_in c.args.client (log_of y.view))) (sym c.self.view_is) c.requires.free

pub returns-clause-log : goal.returns-clause-log
returns-clause-log g c = subst (λ (y : Worlded). AddsLeave c.args.client (log_of y.view) (log_of c.take_leave.new.self.world.view)) c.self.view_is c.take_leave.ensures.leaves
