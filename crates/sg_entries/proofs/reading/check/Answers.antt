-- One line more is an entry's.
use Rattle.std.proofs.Common.{ℕ, Bool, List, map, subst}
use Rattle.sg_entries.proofs.Halves.{IsUpTo, one_more}
use Rattle.sg_entries.specs.Entry.{shows_named}
use Rattle.sg_facts.specs.Facts.{facts_of}
use Rattle.sg_entries.proofs.reading.check.Goals as goal

pub lines-preserved : goal.lines-preserved
lines-preserved c =
    let shows : List ℕ → Bool = shows_named (map facts_of c.args.shapes.now) c.args.iface.now in
    one_more shows c.args.text.now c.in-Some.line c.next.new.self c.in_ok-outline_in.ensures.0 (subst (IsUpTo shows c.args.text.now) c.in-Some.ensures.0 c.lines.invariant) c.in_ok-outline_in.ensures.1
