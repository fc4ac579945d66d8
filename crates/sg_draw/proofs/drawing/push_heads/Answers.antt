-- The heads of the clients, and that of the service.
use Rattle.std.proofs.lemmas.Result.{on_ok_weaker}
use Rattle.sg_draw.proofs.Documents.{then}
use Rattle.sg_draw.proofs.drawing.push_heads.Goals as goal

pub returns : goal.returns
returns c = on_ok_weaker _ (λ d. then c.in_ok-push_clients.ensures d) c.push_head.ensures
