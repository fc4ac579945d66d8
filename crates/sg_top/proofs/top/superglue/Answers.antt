-- The answer for the command that the words say is that for the words.
use Rattle.std.proofs.Common.{rules, subst}
use Rattle.sg_top.specs.Answer.{IsCommand}
use Rattle.sg_top.specs.declared.command.Command.TheVariants.{Explore, Run}
use Rattle.sg_top.proofs.Answers.{in_one_thread, said_answer, said_reads}
use Rattle.sg_top.proofs.Commands.{few_paired, one_command}
use Rattle.sg_top.proofs.top.superglue.Goals as goal

pub returns-in-Run-clause-answer : goal.returns-in-Run-clause-answer
returns-in-Run-clause-answer g c =
    said_answer _ _ _ _ _ _ _ (Run c.in-Run.trace) (one_command c.args.words.now)
    (subst (IsCommand c.args.words.now) c.in-Run.is c.in-Some.ensures) c.with_threads.ensures.answer

pub returns-in-Run-clause-most_read : goal.returns-in-Run-clause-most_read
returns-in-Run-clause-most_read g c =
    said_reads _ _ _ (Run c.in-Run.trace) (one_command c.args.words.now)
    (subst (IsCommand c.args.words.now) c.in-Run.is c.in-Some.ensures) c.with_threads.ensures.most_read

pub in_one_thread-requires : goal.in_one_thread-requires
in_one_thread-requires g c = in_one_thread c.in-Some.command c.in-Play.is

pub returns-in-Play-clause-answer : goal.returns-in-Play-clause-answer
returns-in-Play-clause-answer g c =
    said_answer _ _ _ _ _ _ _ c.in-Some.command (one_command c.args.words.now) c.in-Some.ensures c.in_one_thread.ensures.answer

pub returns-in-Play-clause-most_read : goal.returns-in-Play-clause-most_read
returns-in-Play-clause-most_read g c =
    said_reads _ _ _ c.in-Some.command (one_command c.args.words.now) c.in-Some.ensures c.in_one_thread.ensures.most_read

pub with_exploration-requires : goal.with_exploration-requires
with_exploration-requires g c = (search rules, few_paired c.args.words.now c.in-Explore.most (subst (IsCommand c.args.words.now) c.in-Explore.is c.in-Some.ensures))

pub returns-in-Explore-clause-answer : goal.returns-in-Explore-clause-answer
returns-in-Explore-clause-answer g c =
    said_answer _ _ _ _ _ _ _ (Explore c.in-Explore.most) (one_command c.args.words.now)
    (subst (IsCommand c.args.words.now) c.in-Explore.is c.in-Some.ensures) c.with_exploration.ensures.answer

pub returns-in-Explore-clause-most_read : goal.returns-in-Explore-clause-most_read
returns-in-Explore-clause-most_read g c =
    said_reads _ _ _ (Explore c.in-Explore.most) (one_command c.args.words.now)
    (subst (IsCommand c.args.words.now) c.in-Explore.is c.in-Some.ensures) c.with_exploration.ensures.most_read
