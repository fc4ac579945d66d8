use Rattle.std.proofs.Common.{arith, sym}
use Rattle.sg_lex.proofs.Closes.{closed_none, closed_before}
use Rattle.sg_lex.proofs.front.closed_after.Goals as goal

pub returns-then-comment-at-eq47-clause-value : goal.returns-then-comment-at-eq47-clause-value
returns-then-comment-at-eq47-clause-value c =
    sym (closed_before c.args.comment.now c.loop-at.at c.loop-at.auto.at c.loop-at-test.true c.if-comment-at-eq42.true
    c.if-comment-at-eq47.true (λ k l. c.loop-at.invariant k (omega arith)))

pub returns-clause-value : goal.returns-clause-value
returns-clause-value c = sym (closed_none c.args.comment.now (λ k l. c.loop-at.invariant k (omega arith)))
