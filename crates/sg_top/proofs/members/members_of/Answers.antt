-- One interface more has a member.
use Rattle.std.proofs.Common.{[], sym, subst}
use Rattle.sg_top.specs.Inside.Ready.{IsAccepted}
use Rattle.sg_top.specs.Inside.Several.{AreMembersOf}
use Rattle.sg_top.proofs.Several.{each_at, members_all, members_more}
use Rattle.sg_top.proofs.members.members_of.Goals as goal

pub interfaces-init : goal.interfaces-init
interfaces-init c = subst (AreMembersOf []) (sym c.new-members.ensures) tt

pub member_of-requires : goal.member_of-requires
member_of-requires c =
    subst IsAccepted (sym c.any-item.is) (each_at IsAccepted c.args.interfaces.now c.interfaces.any-index c.any-item.result c.requires c.interfaces-test.true)

pub interfaces-preserved : goal.interfaces-preserved
interfaces-preserved c =
    members_more c.args.interfaces.now c.interfaces.any-index c.interfaces.members c.push.new.self c.any-item.result c.in_ok-member_of.field-0 c.interfaces-test.true
    c.interfaces.invariant c.any-item.is c.in_ok-member_of.ensures c.in_ok-push.ensures.ok

pub returns : goal.returns
returns c = members_all c.args.interfaces.now c.interfaces.any-index c.interfaces.members c.interfaces-test.false c.interfaces.invariant
