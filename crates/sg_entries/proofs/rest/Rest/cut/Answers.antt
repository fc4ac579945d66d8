-- A text is cut at its first LF, where it has one.
use Rattle.std.proofs.Common.{sym, ◌∙◌}
use Rattle.sg_entries.proofs.Cutting.{first_line, one_line}
use Rattle.sg_entries.proofs.rest.Rest.cut.Goals as goal

pub returns-in-None-clause-lines : goal.returns-in-None-clause-lines
returns-in-None-clause-lines c = one_line c.args.self.at c.args.self.bytes.now (sym c.first_end.ensures ∙ c.in-None.is)

pub returns-in-Some-clause-lines : goal.returns-in-Some-clause-lines
returns-in-Some-clause-lines c = (first_line c.args.self.at c.args.self.bytes.now c.in-Some.end (sym c.first_end.ensures ∙ c.in-Some.is)).0
