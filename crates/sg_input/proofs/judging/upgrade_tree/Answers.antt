-- The text that is printed is that of the tree as one of version 2.
use Rattle.std.proofs.Common.{◌∙◌, ap}
use Rattle.sg_print.specs.Printed.{printed}
use Rattle.sg_input.proofs.judging.upgrade_tree.Goals as goal

pub returns-in_ok-print-in-Ok : goal.returns-in_ok-print-in-Ok
returns-in_ok-print-in-Ok c =
    (c.args.tree, c.in-Ok.field-0, c.requires.sentence, c.in-Ok.ensures.answer, c.in_ok-print-in-Ok.ensures ∙ ap printed c.upgraded_tree.ensures)
