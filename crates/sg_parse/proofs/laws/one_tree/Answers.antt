-- Reading the tokens has one end.
use Rattle.sg_rules.proofs.sg_lex.Answers.{one_value}
use Rattle.sg_parse.specs.Grammar.Sentence.{IsSentence}
use Rattle.sg_parse.specs.Grammar.Inside.States.{trees}
use Rattle.sg_parse.proofs.Grammar.Runs.{just}
use Rattle.sg_parse.proofs.laws.one_tree.Goals as goal

pub returns : goal.returns
returns c = one_value trees IsSentence just
