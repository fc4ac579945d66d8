use Rattle.std.proofs.Common.{rules}
use Rattle.sg_turn.specs.Logs.{face_by}
use Rattle.sg_turn.proofs.Keeps.{fetches}
use Rattle.sg_turn.proofs.steps.fetch.Goals as goal

pub load-requires : goal.load-requires
load-requires g c =
    let face = face_by g.V.Kept.log g.V.Kept.events in
    (search rules, search rules, fetches face (face c.args.steps.now.key.value) _ _ _ c.args.ticket c.requires.served)
