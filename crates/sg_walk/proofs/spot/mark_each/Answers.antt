use Rattle.sg_walk.proofs.Marks.{effect_written, effect_passed}
use Rattle.sg_walk.proofs.spot.mark_each.Goals as goal
use Rattle.sg_walk.proofs.spot.mark_each.Goals.{then-at-marks, else-at-marks}

pub effects-preserved : goal.effects-preserved
effects-preserved c = elim c.if-at-marks.branch [
  | then-at-marks w ↦
      effect_written c.args.effects.now c.effects.field-index _ c.effects.marks c.if-at-marks.marks c.from-at.result w.after.result _ c.effects-test.true
      c.effects.invariant c.from-at.ensures w.after.ensures w.marks-is
  | else-at-marks w ↦
      effect_passed c.args.effects.now c.effects.field-index _ c.effects.marks c.if-at-marks.marks c.from-at.result _ c.effects-test.true
      c.effects.invariant c.from-at.ensures w.if-at-marks.false w.marks-is
]
