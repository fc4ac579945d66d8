-- The answer is what is read.
use Rattle.std.proofs.Common.{sym, ◌∙◌}
use Rattle.sg_entries.specs.Inside.States.{entry_start}
use Rattle.sg_entries.specs.Inside.Reads.{read_from}
use Rattle.sg_entries.proofs.ReadingEntries.{reads_no_memory}
use Rattle.sg_entries.proofs.OneAnswer.{may_answer, only_answer}
use Rattle.sg_entries.proofs.parse_laws.one_answer.Goals as goal

pub returns-clause-some : goal.returns-clause-some
returns-clause-some c = λ shows line. (read_from (entry_start shows) 0 line, may_answer shows line, reads_no_memory line (entry_start shows) 0)

pub returns-clause-alone : goal.returns-clause-alone
returns-clause-alone c = λ shows line one other h g n m. sym (only_answer shows line one h n) ∙ only_answer shows line other g m
