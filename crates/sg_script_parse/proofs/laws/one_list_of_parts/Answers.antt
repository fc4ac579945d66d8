-- Reading the tokens has one end.
use Rattle.sg_lex.proofs.Answers.{one_value}
use Rattle.sg_script_parse.specs.Grammar.Sentence.{IsScriptSentence}
use Rattle.sg_script_parse.specs.Grammar.Inside.States.{scripts_for}
use Rattle.sg_script_parse.proofs.Grammar.Runs.{just}
use Rattle.sg_script_parse.proofs.laws.one_list_of_parts.Goals as goal

pub returns : goal.returns
returns c = λ several. one_value (scripts_for several) (IsScriptSentence several) (just several)
