-- A lane's line shows no text, and its head the name.
use Rattle.std.proofs.lemmas.Result.{on_ok_weaker}
use Rattle.sg_draw.proofs.Documents.{then}
use Rattle.sg_draw.proofs.drawing.push_head.Goals as goal

pub returns : goal.returns
returns c = on_ok_weaker _ (λ d. then c.in_ok-push_line.ensures d) c.push_words.ensures
