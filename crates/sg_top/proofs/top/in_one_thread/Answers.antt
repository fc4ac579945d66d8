-- A load reads nothing; every other command has an input.
use Rattle.std.proofs.Common.{sym, inl, refl}
use Rattle.sg_top.specs.declared.command.Command.TheVariants.{Load}
use Rattle.sg_top.proofs.Answers.{delivered, one_given, own_answer, with_input}
use Rattle.sg_top.proofs.top.in_one_thread.Goals as goal

pub returns-in-Load-clause-answer : goal.returns-in-Load-clause-answer
returns-in-Load-clause-answer g c =
    own_answer _ _ _ _ _ _ (Load c.in-Load.service c.in-Load.number) (one_given c.args.command) (sym c.in-Load.is)
    (delivered _ _ _ _ _ c.loaded.result c.loaded.ensures c.deliver_made.ensures.made c.deliver_made.ensures.unmade) c.deliver_made.ensures.count

pub returns-in-Play : goal.returns-in-Play
returns-in-Play g c = record {
  answer = c.with_input.ensures.answer;
  most_read = inl (c.args.command, refl, with_input c.args.command c.in-Play.is, c.with_input.ensures.most_read);
}
