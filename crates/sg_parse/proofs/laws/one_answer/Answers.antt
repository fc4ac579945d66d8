-- The answer is what is read.
use Rattle.std.proofs.Common.{sym, ◌∙◌, length}
use Rattle.sg_rules.specs.sg_lex.Tokens.{answers_of}
use Rattle.sg_rules.specs.sg_lex.Inside.Automata.{read_from}
use Rattle.sg_parse.specs.Grammar.Inside.States.{start, trees}
use Rattle.sg_parse.proofs.Grammar.Readings.{may_answer, only_answer, reads_no_memory}
use Rattle.sg_parse.proofs.laws.one_answer.Goals as goal

pub returns-clause-some : goal.returns-clause-some
returns-clause-some c = λ text.
    (read_from trees (length text) start (answers_of text), may_answer (length text) (answers_of text), reads_no_memory (length text) start (answers_of text))

pub returns-clause-alone : goal.returns-clause-alone
returns-clause-alone c = λ text one other h g n m.
    sym (only_answer (length text) (answers_of text) one h n) ∙ only_answer (length text) (answers_of text) other g m
