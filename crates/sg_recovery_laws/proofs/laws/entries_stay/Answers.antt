use Rattle.sg_hist.proofs.Growing.{entries_before-committed, entries_before-held, entries_before-more, entries_before-not_yet, entries_before-refused}
use Rattle.sg_recovery_laws.proofs.laws.entries_stay.Goals as goal

pub returns : goal.returns
returns c = record {
  noted = entries_before-more;
  committed = entries_before-committed;
  refused = entries_before-refused;
  held = entries_before-held;
  not_yet = entries_before-not_yet;
}
