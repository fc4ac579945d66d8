-- The outline is that of the one answer.
use Rattle.std.proofs.Common.{map}
use Rattle.sg_entries.proofs.OneAnswer.{only_outline}
use Rattle.sg_entries.specs.Entry.{shows_named}
use Rattle.sg_facts.specs.Facts.{facts_of}
use Rattle.sg_entries.proofs.parser.parse_outline.Goals as goal

pub returns-clause-only : goal.returns-clause-only
returns-clause-only c = λ other. only_outline (shows_named (map facts_of c.args.shapes.now) c.args.iface.now) c.args.line.now c.outline_in.result other c.outline_in.ensures.ends
