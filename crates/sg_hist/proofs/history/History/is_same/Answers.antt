-- One entry more is the same.
use Rattle.sg_hist.specs.Lent.{entry_in}
use Rattle.sg_hist.proofs.SameEntries.{same_next}
use Rattle.sg_hist.proofs.history.History.is_same.Goals as goal

pub entries-preserved : goal.entries-preserved
entries-preserved c =
    same_next c.args.self.now.items c.args.other.now.items c.entries.at (entry_in c.at.result) (entry_in c.at-in-entries.result) c.at.ensures c.at-in-entries.ensures
    (c.is_same.ensures.0 c.if-not-is_same.false) c.entries.invariant
