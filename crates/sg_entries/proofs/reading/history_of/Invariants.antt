-- The lines before those that are left are read.
use Rattle.std.proofs.Common.{length, map}
use Rattle.sg_entries.proofs.Halves.{IsReadUpTo}
use Rattle.sg_entries.specs.Entry.{shows_named}
use Rattle.sg_facts.specs.Facts.{facts_of}
use Rattle.sg_entries.proofs.reading.history_of.Given as goal

abbrev pub invariant-lines : goal.invariant-lines
invariant-lines l = IsReadUpTo (shows_named (map facts_of l.shapes) l.iface) l.iface l.text l.lines l.history.items

abbrev pub decreases-lines : goal.decreases-lines
decreases-lines l = length l.lines
