-- A path has a mark where the map has one at its bytes.
use Rattle.std.proofs.Common.{is_some, ◌∙◌, ap}
use Rattle.sg_replay.proofs.Committed.{copied_some}
use Rattle.sg_replay.proofs.Marks.{has_found}
use Rattle.sg_replay.proofs.present.has_mark.Goals as goal

pub returns : goal.returns
returns c = c.is_some.ensures ∙ copied_some c.get.result ∙ ap is_some c.get.ensures.value ∙ has_found c.args.marks.now.entries c.args.key.now
