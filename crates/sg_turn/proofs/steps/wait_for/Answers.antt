use Rattle.std.proofs.Common.{rules, ap, ◌∙◌}
use Rattle.sg_turn.specs.Logs.{face_by}
use Rattle.sg_turn.proofs.Keeps.{looks}
use Rattle.sg_turn.proofs.steps.wait_for.Goals as goal

pub load-served-requires : goal.load-served-requires
load-served-requires g c =
    let i = c.loop.invariant in
    let face = face_by g.V.Kept.log g.V.Kept.events in
    (search rules, search rules, looks face (face c.args.steps.now.key.value) _ _ _ c.args.ticket (ap (λ me. me.0.state) i.3 ∙ c.requires.waits))
