-- What is known of each field.
use Rattle.std.proofs.Common.{◌∙◌, ◌++◌, ap}
use Rattle.sg_known.specs.Surveys.{subject_of}
use Rattle.sg_safe.specs.declared.reason.KnownSpot.{KnownSpot}
use Rattle.sg_safe.specs.Inside.Replays.{spots_from}
use Rattle.sg_safe.specs.Inside.Seen.{shown}
use Rattle.sg_safe.specs.Reasons.{known_fields}
use Rattle.sg_safe.proofs.Seeing.{spots_known}
use Rattle.sg_safe.proofs.replaying.known_of_spot.Goals as goal

pub returns : goal.returns
returns c =
    let d = subject_of c.args.survey.now in
    let marks = c.marks_of-marks.result.now in
    ap (λ l. let k : KnownSpot = record { state = c.args.spot.state; fields = l } in k)
    (c.in_ok-add_known.ensures ∙ ap (λ l. l ++ spots_from c.args.fields.now c.as_slice.result.now 0 marks) c.new-known.ensures
    ∙ ap (λ l. spots_from c.args.fields.now l 0 marks) (c.as_slice.ensures.value ∙ c.requires.survey.most)
    ∙ spots_known d (shown d c.args.spot) c.args.fields.now c.requires.known 0 marks
    ∙ ap (known_fields d (shown d c.args.spot) 0) c.marks_of-marks.ensures.marks)
