use Rattle.std.proofs.Common.{◌∙◌, sym, subst}
use Rattle.sg_turn.specs.Seats.{HasLearnt}
use Rattle.sg_turn.proofs.CallLaws.{leaves}
use Rattle.sg_turn.proofs.shared.Shared.leave.Goals as goal

pub returns : goal.returns
returns g c =
    let q = c.take-held.new.seat in
    let l = subst (λ s. HasLearnt s q) c.pass.view_is c.take-held.ensures.seat in
    let e = c.pass.invariant.1 ∙ sym c.take-held.ensures.seat.learns.number in
    let h = leaves c.args.pass.now q c.leave.new.seat c.pass.inside.client l e c.leave.ensures.same c.leave.ensures.left in
    record { stays = h.0; left = h.1 }
