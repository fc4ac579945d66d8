-- What is found one fact after the other is the first fact that isn't the service's.
use Rattle.std.proofs.Common.{sym, ◌∙◌}
use Rattle.sg_facts.specs.Facts.{facts_of}
use Rattle.sg_check_statements.proofs.FirstFact.{by_turns}
use Rattle.sg_check_statements.proofs.heads.wrong_fact.Goals as goal

pub returns : goal.returns
returns c = c.first_other.ensures ∙ sym (by_turns (facts_of c.args.shape.now) c.args.facts.now)
