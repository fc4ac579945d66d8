use Rattle.std.proofs.Common.{⊎_elim, sym, ap, ◌∙◌, rules, true≢false}
use Rattle.sg_turn.specs.Logs.{face_by}
use Rattle.sg_turn.specs.Inside.Places.{is_holding}
use Rattle.sg_turn.proofs.Keeps.{progresses}
use Rattle.sg_turn.proofs.steps.learn.Goals as goal

pub load-requires : goal.load-requires
load-requires g c =
    let face = face_by g.V.Kept.log g.V.Kept.events in (
      search rules,
      search rules,
      progresses face (face c.args.steps.now.key.value) _ _ _
          (λ e. ⊎_elim (λ is. cc) (λ is. true≢false (sym is ∙ ap is_holding e)) c.requires.between),
    )
