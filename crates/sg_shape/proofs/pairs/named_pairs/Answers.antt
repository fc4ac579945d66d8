-- Statement by statement.
use Rattle.std.proofs.Common.{[]}
use Rattle.sg_shape.specs.ShapeOfText.{pair_in}
use Rattle.sg_shape.proofs.Loops.{gained}
use Rattle.sg_shape.proofs.pairs.named_pairs.Goals as goal

pub statements-preserved : goal.statements-preserved
statements-preserved c =
    gained (pair_in c.args.word.now c.args.statements.now) c.args.statements.now c.statements.statement-index c.statement-item.result c.pair_in.result [] c.statements.named c.add.new.list
    c.statements-test.true c.statement-item.is (c.pair_in.ensures c.args.statements.now c.requires.protos) c.statements.invariant c.in_ok-add.ensures
