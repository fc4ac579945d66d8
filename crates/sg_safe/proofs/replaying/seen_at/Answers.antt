-- What is known of each field.
use Rattle.std.proofs.Common.{◌∙◌, ◌++◌, map, ap, refl}
use Rattle.sg_known.specs.sg_walk.Marks.{known_of}
use Rattle.sg_known.specs.Surveys.{subject_of}
use Rattle.sg_safe.specs.Inside.Replays.{fields_from}
use Rattle.sg_safe.specs.Inside.Seen.{shown}
use Rattle.sg_safe.proofs.Seeing.{row_seen}
use Rattle.sg_safe.proofs.replaying.seen_at.Goals as goal

pub returns : goal.returns
returns c =
    let d = subject_of c.args.survey.now in
    row_seen d (shown d c.args.spot) _ c.add_bounds.new.fields.items c.from.result c.from-2.result refl refl
    (c.in_ok-add_bounds.ensures ∙ ap (λ l. l ++ fields_from d c.args.spot.state 0 (map known_of c.marks_of-marks.result.now)) c.in_ok-fields.ensures.items
    ∙ ap (fields_from d c.args.spot.state 0) c.marks_of-marks.ensures.marks)
    c.from.ensures c.from-2.ensures
