use Rattle.std.proofs.Common.{◌∙◌, sym, subst}
use Rattle.sg_turn.specs.Seats.{HasLearnt}
use Rattle.sg_turn.proofs.CallLaws.{offers, on_ok}
use Rattle.sg_turn.proofs.shared.Shared.offer.Goals as goal

pub returns-clause-ok : goal.returns-clause-ok
returns-clause-ok g c =
    let q = c.take-held.new.seat in
    let l = subst (λ s. HasLearnt s q) c.pass.view_is c.take-held.ensures.seat in
    let e = c.pass.invariant.1 ∙ sym c.take-held.ensures.seat.learns.number in
    on_ok c.offer.result (offers c.args.pass.now q c.offer.new.seat c.pass.inside.client c.args.parts.fun c.args.parts.desc c.args.parts.args l e) c.offer.ensures.ok
