-- The last place is left.
use Rattle.std.proofs.Common.{◌≡◌, arith, subst}
use Rattle.sg_interpret.specs.sg_described.Described.{described_of}
use Rattle.sg_interpret.specs.sg_described.Safe.{made_safe}
use Rattle.sg_multi.proofs.member.Member.own.Goals as goal

pub begun-requires-else-place-eq4 : goal.begun-requires-else-place-eq4
begun-requires-else-place-eq4 g c =
    let last : c.args.place ≡ 5 = omega (arith, c.if-place-eq0.false, c.if-place-eq1.false, c.if-place-eq2.false, c.if-place-eq3.false, c.if-place-eq4.false, c.requires.there) in
    (omega arith, (omega arith, (subst (λ n. described_of c.args.description ≡ made_safe (g.N.Describes.descriptions n)) last c.requires.picked, (c.requires.its, (c.requires.few, (c.requires.unasked, c.requires.unstruck))))))
