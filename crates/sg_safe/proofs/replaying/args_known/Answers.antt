-- Each argument is carried by a field.
use Rattle.std.proofs.Common.{◌∙◌, ap}
use Rattle.sg_known.specs.Seen.{pairs_of}
use Rattle.sg_known.specs.Surveys.{subject_of}
use Rattle.sg_safe.proofs.Seeing.{args_seen}
use Rattle.sg_safe.proofs.replaying.args_known.Goals as goal

pub returns : goal.returns
returns c =
    args_seen (subject_of c.args.survey.now) c.args.fun (pairs_of c.fun.result.effects.now) c.as_slice.result.now (ap (λ f. f.effects) c.fun.ensures) (c.as_slice.ensures.value ∙ c.requires.most)
