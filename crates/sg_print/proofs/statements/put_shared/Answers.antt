use Rattle.sg_print.specs.Printed.{shared_text}
use Rattle.sg_print.proofs.statements.put_shared.Goals as goal

pub returns : goal.returns
unfolding shared_text
returns c = rw (← c.facts.view_is) c.put.ensures
