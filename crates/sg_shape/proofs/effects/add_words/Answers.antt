-- Statement by statement.
use Rattle.std.proofs.Common.{◌++◌, ◌∙◌, ap}
use Rattle.sg_check_statements.specs.Inside.Pieces.{statement_effects}
use Rattle.sg_shape.proofs.Loops.{gained_all}
use Rattle.sg_shape.proofs.effects.add_words.Goals as goal

pub statements-preserved : goal.statements-preserved
statements-preserved c =
    gained_all (statement_effects c.args.fun.now) c.args.statements.now c.statements.statement-index c.statement-item.result c.args.effects.now c.statements.effects c.add.new.list
    c.statements-test.true c.statement-item.is c.statements.invariant (c.in_ok-add.ensures ∙ ap (λ l. c.statements.effects ++ l) c.word_effect.ensures)
