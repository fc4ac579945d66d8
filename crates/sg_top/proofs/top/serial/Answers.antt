-- The answer for the command that the words say is that for the words.
use Rattle.std.proofs.Common.{◌∙◌, sym}
use Rattle.sg_top.proofs.Answers.{said_answer, said_reads}
use Rattle.sg_top.proofs.Commands.{one_serial}
use Rattle.sg_top.proofs.top.serial.Goals as goal

pub returns-clause-answer : goal.returns-clause-answer
returns-clause-answer g c =
    said_answer _ _ _ _ _ _ _ c.in-Some.command (one_serial c.args.words.now) (c.in-Some.ensures, sym c.is_in_threads.ensures ∙ c.if-is_in_threads.false) c.in_one_thread.ensures.answer

pub returns-clause-most_read : goal.returns-clause-most_read
returns-clause-most_read g c =
    said_reads _ _ _ c.in-Some.command (one_serial c.args.words.now) (c.in-Some.ensures, sym c.is_in_threads.ensures ∙ c.if-is_in_threads.false) c.in_one_thread.ensures.most_read
