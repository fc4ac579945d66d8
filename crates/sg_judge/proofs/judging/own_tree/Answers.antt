-- A text without a tree, or of another version, describes no service of its own.
use Rattle.std.proofs.Common.{sym, ◌∙◌}
use Rattle.sg_judge.proofs.Texts.{lex_tells, no_tree, not_own, syntax_tells}
use Rattle.sg_judge.proofs.judging.own_tree.Goals as goal

pub returns-in-Err-Lex : goal.returns-in-Err-Lex
returns-in-Err-Lex c =
    let fault = c.in-Err-Lex.field-0 in
    no_tree c.args.text.now c.parse.result fault c.parse.ensures.only c.in-Err-Lex.is (λ e. lex_tells c.in-Err-Lex.field-0-0 (sym c.in-Err-Lex.field-0-is ∙ e))

pub returns-in-Err-Syntax : goal.returns-in-Err-Syntax
returns-in-Err-Syntax c =
    let fault = c.in-Err-Syntax.field-0 in
    no_tree c.args.text.now c.parse.result fault c.parse.ensures.only c.in-Err-Syntax.is (λ e. syntax_tells c.in-Err-Syntax.field-0-0 (sym c.in-Err-Syntax.field-0-is ∙ e))

pub returns : goal.returns
returns c = not_own c.args.text.now c.in-Ok.tree c.in-Ok.ensures.answer (sym c.is_own.ensures ∙ c.if-is_own.false)
