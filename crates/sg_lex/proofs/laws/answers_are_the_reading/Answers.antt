use Rattle.sg_lex.proofs.Readings.{reads, only_reading}
use Rattle.sg_lex.proofs.laws.answers_are_the_reading.Goals as goal

pub returns-clause-reads : goal.returns-clause-reads
returns-clause-reads c = λ text. reads text

pub returns-clause-alone : goal.returns-clause-alone
returns-clause-alone c = λ text answers reading. only_reading reading
