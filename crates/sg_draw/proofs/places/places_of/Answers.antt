-- An entry more is noted.
use Rattle.std.proofs.Common.{arith}
use Rattle.sg_draw.proofs.Kept.{places_back}
use Rattle.sg_report.specs.sg_hist.Lent.{entry_in}
use Rattle.sg_draw.proofs.places.places_of.Goals as goal

pub entries-preserved : goal.entries-preserved
entries-preserved c = record {
  low = omega arith;
  kept =
      places_back c.entries.places.entries c.note.new.places.entries c.args.history.now.items c.entries.at (entry_in c.at-entry.result) (omega arith) c.entries.invariant.low
      c.entries.invariant.kept c.at-entry.ensures c.in_ok-note.ensures;
}
