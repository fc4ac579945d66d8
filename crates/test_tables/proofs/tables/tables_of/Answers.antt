-- The text is of the one service.
use Rattle.std.proofs.Common.{◌∙◌, ap}
use Rattle.sg_facts.specs.Facts.{facts_of}
use Rattle.test_tables.proofs.Services.{one_service}
use Rattle.test_tables.proofs.tables.tables_of.Goals as goal

pub returns : goal.returns
returns c = ap (λ i. i.facts) c.in_ok-compile.ensures.iface ∙ one_service (facts_of c.args.shape) c.in_ok-tree.tree c.in_ok-accepted.accepted c.in_ok-accepted.ensures.answer
