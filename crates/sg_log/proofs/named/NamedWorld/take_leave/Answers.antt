-- Who has no call under way by the log has none in the world, and leaves.
use Rattle.std.proofs.Common.{◌≤◌, sym, ap, ◌∙◌, subst}
use Rattle.sg_turn.specs.Hosts.{AddsLeave}
use Rattle.sg_log.specs.Log.{log_of}
use Rattle.sg_log.proofs.Offering.{free_stand, leave_log}
use Rattle.sg_log.proofs.named.NamedWorld.take_leave.Goals as goal

pub leave-requires-clause-free : goal.leave-requires-clause-free
leave-requires-clause-free g c =
    let n = c.args.self.now in
    let last = subst (λ k. c.args.client ≤ k) (sym (n.seats ∙ n.count)) c.requires.last in
    free_stand n.world.view c.args.client c.requires.first last c.marks-told.ensures.told c.requires.free

pub returns-clause-leaves : goal.returns-clause-leaves
returns-clause-leaves g c =
    let n = c.args.self.now in
    let last = subst (λ k. c.args.client ≤ k) (sym (n.seats ∙ n.count)) c.requires.last in
    let told = c.marks-told.ensures.told in
    let free = free_stand n.world.view c.args.client c.requires.first last told c.requires.free in
    subst (λ v. AddsLeave c.args.client (log_of n.world.view) (log_of v)) (sym (ap (λ y. y.view) c.leave.ensures)) (leave_log n.world.view c.args.client c.requires.first last told free)
