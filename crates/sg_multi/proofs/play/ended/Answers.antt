-- What each member's run came to, and how the clients end.
use Rattle.std.proofs.Common.{◌∙◌, List, map, length, ap, arith, subst, sym}
use Rattle.sg_multi.specs.Members.{Membered}
use Rattle.sg_multi.specs.sg_sim.Inside.Givens.{lists_of}
use Rattle.sg_multi.specs.sg_sim.sg_plain.Calls.{most_client}
use Rattle.sg_multi.specs.Inside.Ended.{AreEndedMembers}
use Rattle.sg_multi.specs.Inside.Turns.{ends_up_to}
use Rattle.sg_multi.specs.Played.{AreOfMembers, IsMultiPlayed, MultiCame, stubs_in}
use Rattle.sg_multi.proofs.Ending.{multi_played}
use Rattle.sg_multi.proofs.Following.{follows_over}
use Rattle.sg_multi.proofs.PastStop.{begins_over}
use Rattle.sg_multi.proofs.Turning.{few_members, first_there, of_members}
use Rattle.sg_multi.proofs.play.ended.Goals as goal

pub ended_members-requires : goal.ended_members-requires
ended_members-requires g c =
    let r = c.args.running.now in
    omega (arith, few_members c.args.script.now r c.requires.keeps, ap (λ (l : List Membered). length l) c.as_slice.ensures)

pub returns-clause-played : goal.returns-clause-played
returns-clause-played g c =
    let r = c.args.running.now in
    let s = c.args.script.now in
    let ends = ends_up_to r.members s (lists_of r.given) (most_client s.clients) in
    let eds = c.in_ok-members.members in
    let are : AreEndedMembers r.members ends eds
    = subst (λ e. AreEndedMembers r.members e eds) (c.as_slice-2.ensures ∙ c.in_ok-ends.ensures) (subst (λ (ms : List Membered). AreEndedMembers ms c.as_slice-2.result.now eds) c.as_slice.ensures c.in_ok-members.ensures) in
    let order = c.in_ok-order.ensures ∙ c.as_slice-3.ensures in
    subst (IsMultiPlayed (map stubs_in r.members) s) (sym (c.new.ensures ∙ ap (λ o. record { order = o; members = eds; ends = c.in_ok-ends.ends }) order ∙ ap (λ e. record { order = r.order.items; members = eds; ends = e }) c.in_ok-ends.ensures))
    (multi_played r.members s (lists_of r.given) r.order.items c.requires.keeps.keeps c.requires.over.nobody (first_there s r c.requires.keeps) c.requires.over.settled c.requires.keeps.sets_up c.requires.keeps.asked eds are
    (follows_over r.members s (lists_of r.given) r.order.items c.requires.keeps.keeps r.passed r.last c.requires.over.nobody c.requires.over.settled c.requires.keeps.follows ends eds are)
    (begins_over r.members s (lists_of r.given) c.requires.keeps.keeps.merged r.passed r.last c.requires.keeps.follows c.requires.keeps.begins ends eds are))

pub returns-clause-worlds : goal.returns-clause-worlds
returns-clause-worlds g c =
    let r = c.args.running.now in
    subst (λ (x : MultiCame). AreOfMembers r.members x.members) (sym c.new.ensures)
    (of_members r.members c.as_slice-2.result.now c.in_ok-members.members (subst (λ (ms : List Membered). AreEndedMembers ms c.as_slice-2.result.now c.in_ok-members.members) c.as_slice.ensures c.in_ok-members.ensures))
