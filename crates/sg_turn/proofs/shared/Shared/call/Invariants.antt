use Rattle.std.proofs.Common.{◌≡◌}
use Rattle.sg_turn.specs.Inside.Calls.{IsUnderWay}
use Rattle.sg_turn.specs.Passes.{call_by}
use Rattle.sg_turn.proofs.shared.Shared.call.Given as goal

abbrev pub invariant-loop : goal.invariant-loop
invariant-loop g l =
    (goal.iterator-loop g).can_next l.iterator' × (goal.iterator-loop g).is_finite l.iterator'
    × (l.pass.turn ≡ l.fn.pass.turn)
    × IsUnderWay l.fn.pass (call_by l.fn.pass l.fn.parts.fun l.fn.parts.desc l.fn.parts.args) l.pass
