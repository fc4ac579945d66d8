use Rattle.std.proofs.Common.{rules, refl, ap, ◌∙◌, arith}
use Rattle.sg_turn.specs.Logs.{face_by}
use Rattle.sg_turn.proofs.Keeps.{draws}
use Rattle.sg_turn.proofs.steps.draw.Goals as goal

pub compare_exchange-found-requires : goal.compare_exchange-found-requires
compare_exchange-found-requires g c =
    let i = c.loop.invariant in
    let face = face_by g.V.Kept.log g.V.Kept.events in
    (search rules, search rules, draws face (face c.args.steps.now.key.value) _ _ _ _ _ (ap (λ me. me.0.state) i.3 ∙ c.requires.idle) refl (omega arith))
