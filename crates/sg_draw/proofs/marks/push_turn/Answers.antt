-- A bar and a line show no text.
use Rattle.std.proofs.lemmas.Result.{on_ok_weaker}
use Rattle.sg_draw.proofs.Documents.{then}
use Rattle.sg_draw.proofs.marks.push_turn.Goals as goal

pub returns-in_ok-push_bar-in-Some : goal.returns-in_ok-push_bar-in-Some
returns-in_ok-push_bar-in-Some c = on_ok_weaker _ (λ d. then c.in_ok-push_bar-in-Some.ensures d) c.push_line-in-Some.ensures
