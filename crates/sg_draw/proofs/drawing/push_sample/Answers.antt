-- A sample shows no text, and its words stand beside it.
use Rattle.std.proofs.lemmas.Result.{on_ok_weaker}
use Rattle.sg_draw.proofs.Documents.{then}
use Rattle.sg_draw.proofs.drawing.push_sample.Goals as goal

pub returns : goal.returns
returns c = on_ok_weaker _ (λ d. then c.in_ok-push_line.ensures d) c.push_words.ensures
