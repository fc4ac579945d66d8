-- What was read, and what was done with it, is the answer.
use Rattle.std.proofs.Common.{◌∙◌, ap, subst, refl, Ok}
use Rattle.sg_edge.specs.Intake.{TakesIn}
use Rattle.sg_top.proofs.Answers.{delivered, one_given, whole_answer, too_long_answer}
use Rattle.sg_top.proofs.top.with_input.Goals as goal

pub returns-in-Ok-Whole-clause-answer : goal.returns-in-Ok-Whole-clause-answer
returns-in-Ok-Whole-clause-answer g c =
    whole_answer _ _ _ _ _ _ _ _ _ _ _ c.as_slice.ensures c.most_bytes.ensures (one_given c.args.command) refl c.requires.has
    (subst (TakesIn c.most_bytes.result _ _) (c.in-Ok-Whole.is ∙ ap Ok c.in-Ok-Whole.field-0-is) c.read_all.ensures.taken)
    (delivered _ _ _ _ _ c.output_of.result c.output_of.ensures c.deliver_made.ensures.made c.deliver_made.ensures.unmade)
    (c.read_all.ensures.steady (λ failed. absurd (cc (failed, c.in-Ok-Whole.is)))) c.deliver_made.ensures.count

pub returns-in-Ok-TooLong-clause-answer : goal.returns-in-Ok-TooLong-clause-answer
returns-in-Ok-TooLong-clause-answer g c =
    too_long_answer _ _ _ _ _ _ _ _ _ _ c.too_long_output.ensures c.most_bytes.ensures (one_given c.args.command) refl c.requires.has
    (subst (TakesIn c.most_bytes.result _ _) (c.in-Ok-TooLong.is ∙ ap Ok c.in-Ok-TooLong.field-0-is) c.read_all.ensures.taken)
    c.deliver.ensures.ran c.deliver.ensures.written (c.read_all.ensures.steady (λ failed. absurd (cc (failed, c.in-Ok-TooLong.is))))
    c.deliver.ensures.count
