-- Line by line.
use Rattle.sg_input.specs.sg_facts.Facts.{facts_of}
use Rattle.sg_explain.specs.Rebuilt.{rebuilt_line}
use Rattle.sg_explain.proofs.Telling.{one_more_piece}
use Rattle.sg_explain.proofs.rebuilt.put_rebuilt.Goals as goal

pub loop-line-preserved : goal.loop-line-preserved
loop-line-preserved c =
    one_more_piece (rebuilt_line (facts_of c.args.shape.now)) c.args.lines.now c.loop-line.line-index c.line-item.result c.args.out.now c.loop-line.out c.put_line.new.out c.loop-line-test.true
    c.line-item.is c.loop-line.invariant c.in_ok-put_line.ensures
