-- The answer is what is read.
use Rattle.std.proofs.Common.{sym, ◌∙◌, length}
use Rattle.sg_lex.specs.Tokens.{answers_of}
use Rattle.sg_lex.specs.Inside.Automata.{read_from}
use Rattle.sg_script_parse.specs.Grammar.Inside.States.{script_start, scripts}
use Rattle.sg_script_parse.proofs.Grammar.Readings.{may_answer, only_answer, reads_no_memory}
use Rattle.sg_script_parse.proofs.laws.one_answer.Goals as goal

pub returns-clause-some : goal.returns-clause-some
returns-clause-some c = λ several text.
    (read_from scripts (length text) (script_start several) (answers_of text), may_answer several (length text) (answers_of text), reads_no_memory (length text) (script_start several) (answers_of text))

pub returns-clause-alone : goal.returns-clause-alone
returns-clause-alone c = λ several text one other h g n m.
    sym (only_answer several (length text) (answers_of text) one h n) ∙ only_answer several (length text) (answers_of text) other g m
