-- A path is looked up by its bytes.
use Rattle.std.proofs.Common.{false, ◌∙◌, ap}
use Rattle.std.specs.Prelude.{unwrap_or}
use Rattle.sg_replay.proofs.Marks.{mark_found}
use Rattle.sg_replay.proofs.present.is_marked.Goals as goal

pub returns : goal.returns
returns c = c.unwrap_or.ensures ∙ ap (λ o. unwrap_or o false) (c.copied.ensures ∙ c.get.ensures.value) ∙ mark_found c.args.marks.now.entries c.args.key.now
