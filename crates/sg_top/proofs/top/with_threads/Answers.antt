-- What was read, and what a play with threads made of it, is the answer.
use Rattle.std.proofs.Common.{◌+◌, ◌∙◌, ap, subst, refl, Ok}
use Rattle.sg_edge.specs.Intake.{TakesIn}
use Rattle.sg_judge.specs.sg_input.Inputs.{most_interface, most_script}
use Rattle.sg_top.specs.declared.command.Command.TheVariants.{Run}
use Rattle.sg_top.proofs.Answers.{delivered, one_given, whole_answer, too_long_answer}
use Rattle.sg_top.proofs.top.with_threads.Goals as goal

pub returns-in-Ok-Whole-clause-answer : goal.returns-in-Ok-Whole-clause-answer
returns-in-Ok-Whole-clause-answer g c =
    whole_answer _ _ _ _ _ _ _ (Run c.args.trace) _ _ _ c.as_slice.ensures refl (one_given (Run c.args.trace)) refl refl
    (subst (TakesIn (most_interface + 4 + most_script) _ _) (c.in-Ok-Whole.is ∙ ap Ok c.in-Ok-Whole.field-0-is) c.read_all.ensures.taken)
    (delivered _ _ _ _ _ c.output_of_threads-made.result c.output_of_threads-made.ensures c.deliver_made.ensures.made c.deliver_made.ensures.unmade)
    (c.read_all.ensures.steady (λ failed. absurd (cc (failed, c.in-Ok-Whole.is)))) c.deliver_made.ensures.count

pub returns-in-Ok-TooLong-clause-answer : goal.returns-in-Ok-TooLong-clause-answer
returns-in-Ok-TooLong-clause-answer g c =
    too_long_answer _ _ _ _ _ _ _ (Run c.args.trace) _ _ refl refl (one_given (Run c.args.trace)) refl refl
    (subst (TakesIn (most_interface + 4 + most_script) _ _) (c.in-Ok-TooLong.is ∙ ap Ok c.in-Ok-TooLong.field-0-is) c.read_all.ensures.taken)
    c.deliver.ensures.ran c.deliver.ensures.written (c.read_all.ensures.steady (λ failed. absurd (cc (failed, c.in-Ok-TooLong.is))))
    c.deliver.ensures.count
