-- The line tells where no token begins, or where the tokens can't go on.
use Rattle.sg_input.proofs.Said.{says_lex, says_syntax}
use Rattle.sg_input.proofs.judging.unparsed_line.Goals as goal

pub returns-in-Lex : goal.returns-in-Lex
returns-in-Lex c = says_lex c.args.text.now c.args.error c.in-Lex.at c.refusal.result c.in-Lex.is c.requires c.refusal.ensures

pub returns-in-Syntax : goal.returns-in-Syntax
returns-in-Syntax c = says_syntax c.args.text.now c.args.error c.in-Syntax.at c.refusal-in-Syntax.result c.in-Syntax.is c.requires c.refusal-in-Syntax.ensures
