-- Statement by statement.
use Rattle.sg_shape.specs.Fields.{word_use}
use Rattle.sg_shape.proofs.Loops.{gained}
use Rattle.sg_shape.proofs.uses.add_words.Goals as goal

pub statements-preserved : goal.statements-preserved
statements-preserved c =
    gained word_use c.args.statements.now c.statements.statement-index c.statement-item.result c.word_use.result c.args.uses.now c.statements.uses c.add.new.list
    c.statements-test.true c.statement-item.is c.word_use.ensures c.statements.invariant c.in_ok-add.ensures
