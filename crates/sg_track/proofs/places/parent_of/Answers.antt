-- What the look-up finds is the row of the id.
use Rattle.std.proofs.Common.{ap, sym}
use Rattle.sg_facts.specs.Inside.Rows.{parent_in}
use Rattle.sg_track.proofs.Entries.{row_found, row_missed}
use Rattle.sg_track.proofs.places.parent_of.Goals as goal

pub returns-in-Some : goal.returns-in-Some
returns-in-Some c = ap parent_in (sym (row_found c.args.kept.now.entries c.args.id c.in-Some.one.now c.requires c.in-Some.ensures.value))

pub returns-in-None : goal.returns-in-None
returns-in-None c = ap parent_in (sym (row_missed c.args.kept.now.entries c.args.id c.requires c.in-None.ensures.value))
