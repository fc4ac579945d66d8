-- A text that prints a history is read to it.
use Rattle.sg_entries.proofs.Backwards.{has_history}
use Rattle.sg_entries.proofs.Spelt.{named_tells}
use Rattle.sg_entries.specs.Entry.{shows_named}
use Rattle.sg_entries.proofs.laws.printed_is_read.Goals as goal

pub returns : goal.returns
returns c = λ services i text history names prints. has_history (shows_named services i) i text history (named_tells services i) names prints
