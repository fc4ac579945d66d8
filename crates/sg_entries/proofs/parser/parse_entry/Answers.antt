-- What is read is the one answer.
use Rattle.std.proofs.Common.{map}
use Rattle.sg_entries.proofs.OneAnswer.{may, only}
use Rattle.sg_entries.specs.Entry.{shows_named}
use Rattle.sg_facts.specs.Facts.{facts_of}
use Rattle.sg_entries.proofs.parser.parse_entry.Goals as goal

pub returns-clause-answer : goal.returns-clause-answer
returns-clause-answer c = may (shows_named (map facts_of c.args.shapes.now) c.args.iface.now) c.args.line.now c.entry_in.result c.entry_in.ensures.ends

pub returns-clause-only : goal.returns-clause-only
returns-clause-only c = λ other. only (shows_named (map facts_of c.args.shapes.now) c.args.iface.now) c.args.line.now c.entry_in.result other c.entry_in.ensures.ends
