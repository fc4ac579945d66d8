-- It is the first of both where the triple is stuck, and else what was the first.
use Rattle.std.proofs.Common.{Some, ap, refl}
use Rattle.sg_explain.proofs.Searching.{goes_free, goes_stuck}
use Rattle.sg_explain.proofs.stuck.go_on.Goals as goal

pub returns-then-is_stuck_in : goal.returns-then-is_stuck_in
returns-then-is_stuck_in c = λ i are reached.
    goes_stuck i c.args.state c.args.first _ c.args.triple c.is_stuck_in.result c.if-is_stuck_in.true (c.is_stuck_in.ensures i are reached) (ap Some c.earlier.ensures)

pub returns-else-is_stuck_in : goal.returns-else-is_stuck_in
returns-else-is_stuck_in c = λ i are reached.
    goes_free i c.args.state c.args.first _ c.args.triple c.is_stuck_in.result c.if-is_stuck_in.false (c.is_stuck_in.ensures i are reached) refl
