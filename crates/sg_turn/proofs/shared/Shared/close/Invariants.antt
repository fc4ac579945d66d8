use Rattle.std.proofs.Common.{◌≡◌, ◌++◌, map}
use Rattle.sg_facts.specs.sg_base.Lists.{Each}
use Rattle.sg_turn.specs.Seats.{SeatView, knowledge_of}
use Rattle.sg_turn.proofs.shared.Shared.close.Given as goal

abbrev pub invariant-loop-pass : goal.invariant-loop-pass
invariant-loop-pass g l = record {
  id : l.closing.id ≡ l.fn.self.id;
  start : l.closing.start ≡ l.fn.self.start;
  gathered : map knowledge_of l.passes.items ++ l.closing.gathered ≡ map knowledge_of l.fn.passes.items;
  turns : Each (λ (p : SeatView). p.turn ≡ l.fn.self.id) l.passes.items;
}

abbrev pub decreases-loop-pass : goal.decreases-loop-pass
decreases-loop-pass g l = goal.left-loop-pass g l
