-- What was read, and what was found by runs with other stops, is the answer.
use Rattle.std.proofs.Common.{◌+◌, ◌∙◌, ap, subst, refl, Ok}
use Rattle.sg_edge.specs.Intake.{TakesIn}
use Rattle.sg_judge.specs.sg_input.Inputs.{most_interface, most_script}
use Rattle.sg_top.specs.declared.command.Command.TheVariants.{Explore}
use Rattle.sg_top.proofs.Answers.{found_output, one_given, whole_answer, too_long_answer}
use Rattle.sg_top.proofs.top.with_exploration.Goals as goal

pub returns-in-Ok-Whole-clause-answer : goal.returns-in-Ok-Whole-clause-answer
returns-in-Ok-Whole-clause-answer g c =
    whole_answer _ _ _ _ _ _ _ (Explore c.args.most) _ _ _ c.as_slice.ensures refl (one_given (Explore c.args.most)) refl refl
    (subst (TakesIn (most_interface + 4 + most_script) _ _) (c.in-Ok-Whole.is ∙ ap Ok c.in-Ok-Whole.field-0-is) c.read_all.ensures.taken)
    (found_output _ _ _ _ _ _ c.explored-made.result c.explored-made.ensures.ran c.explored-made.ensures.found c.deliver_made.ensures.made c.deliver_made.ensures.unmade)
    (c.read_all.ensures.steady (λ failed. absurd (cc (failed, c.in-Ok-Whole.is)))) c.deliver_made.ensures.count

pub returns-in-Ok-TooLong-clause-answer : goal.returns-in-Ok-TooLong-clause-answer
returns-in-Ok-TooLong-clause-answer g c =
    too_long_answer _ _ _ _ _ _ _ (Explore c.args.most) _ _ refl refl (one_given (Explore c.args.most)) refl refl
    (subst (TakesIn (most_interface + 4 + most_script) _ _) (c.in-Ok-TooLong.is ∙ ap Ok c.in-Ok-TooLong.field-0-is) c.read_all.ensures.taken)
    c.deliver.ensures.ran c.deliver.ensures.written (c.read_all.ensures.steady (λ failed. absurd (cc (failed, c.in-Ok-TooLong.is))))
    c.deliver.ensures.count
