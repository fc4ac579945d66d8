-- A triple of another state isn't stuck in this one.
use Rattle.std.proofs.Common.{◌∙◌, sym}
use Rattle.sg_explain.proofs.Searching.{in_its_state, other_state, same_state}
use Rattle.sg_explain.proofs.stuck.is_stuck_in.Goals as goal

pub returns-then-is_of : goal.returns-then-is_of
returns-then-is_of c = λ i are reached.
    in_its_state i c.args.state c.args.triple c.is_stuck.result (same_state c.args.triple.state c.args.state (sym c.is_of.ensures ∙ c.if-is_of.true)) (c.is_stuck.ensures i are reached)

pub returns-else-is_of : goal.returns-else-is_of
returns-else-is_of c = λ i are reached stuck. other_state c.args.triple.state c.args.state (sym c.is_of.ensures ∙ c.if-is_of.false) stuck.0
