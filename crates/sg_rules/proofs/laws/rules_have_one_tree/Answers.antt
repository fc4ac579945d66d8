-- Reading the tokens has one end.
use Rattle.sg_lex.proofs.Answers.{one_value}
use Rattle.sg_rules.specs.Grammar.Sentence.{AreRules}
use Rattle.sg_rules.specs.Grammar.Inside.States.{rule_reader}
use Rattle.sg_rules.proofs.Grammar.Runs.{just}
use Rattle.sg_rules.proofs.laws.rules_have_one_tree.Goals as goal

pub returns : goal.returns
returns c = one_value rule_reader AreRules just
