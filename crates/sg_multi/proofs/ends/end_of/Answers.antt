-- A client with a call more waits in it, and any other is done.
use Rattle.std.proofs.Common.{◌∙◌, ◌-◌, ap, sym}
use Rattle.std.specs.Option.{option_map_or}
use Rattle.sg_multi.specs.sg_sim.sg_script.declared.multi.MultiCall.{MultiCall}
use Rattle.sg_multi.specs.Inside.Whose.{seat_at}
use Rattle.sg_multi.specs.declared.ended.MultiEnd.TheVariants.{Done, Blocked}
use Rattle.sg_multi.proofs.Turning.{member_within, seats_there, some_member}
use Rattle.sg_multi.proofs.ends.end_of.Goals as goal

pub call-requires-clause-some : goal.call-requires-clause-some
call-requires-clause-some g c =
    let r = c.args.running.now in
    some_member r.members c.args.script.now r.given r.order.items c.requires.keeps.keeps c.args.client c.requires.first c.requires.last c.in-Some.call.now (sym c.in-Some.ensures)

pub call-requires-clause-there : goal.call-requires-clause-there
call-requires-clause-there g c =
    let r = c.args.running.now in
    member_within r.members c.args.script.now r.given r.order.items c.requires.keeps.keeps c.args.client c.requires.first c.requires.last c.in-Some.call.now (sym c.in-Some.ensures)

pub call-requires-clause-client : goal.call-requires-clause-client
call-requires-clause-client g c = λ m there.
    let r = c.args.running.now in
    seats_there r.members c.args.script.now r.given r.order.items c.requires.keeps.keeps c.args.client c.requires.first c.requires.last (c.in-Some.call.now.member - 1) m there

pub returns-in_ok-copy-in-Some : goal.returns-in_ok-copy-in-Some
returns-in_ok-copy-in-Some g c =
    let r = c.args.running.now in
    ap (λ k. Blocked c.in-Some.call.now.member k) (c.in_ok-copy-in-Some.ensures ∙ c.call.ensures)
    ∙ ap (λ o. option_map_or (λ (x : MultiCall). Blocked x.member (seat_at r.members (x.member - 1) c.args.client).call) o Done) c.in-Some.ensures

pub returns-in-None : goal.returns-in-None
returns-in-None g c =
    let r = c.args.running.now in
    ap (λ o. option_map_or (λ (x : MultiCall). Blocked x.member (seat_at r.members (x.member - 1) c.args.client).call) o Done) c.in-None.ensures
