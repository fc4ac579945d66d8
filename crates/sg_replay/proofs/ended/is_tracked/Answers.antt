-- An id is live where it has a row.
use Rattle.std.proofs.Common.{is_some, ◌∙◌, ap}
use Rattle.sg_replay.proofs.Committed.{copied_some, row_live}
use Rattle.sg_replay.proofs.ended.is_tracked.Goals as goal

pub returns : goal.returns
returns c = c.is_some.ensures ∙ copied_some c.row.result ∙ ap is_some c.row.ensures ∙ row_live c.args.rows.now.rows c.args.id
