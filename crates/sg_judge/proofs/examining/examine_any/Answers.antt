-- A text without a tree describes no service of its own.
use Rattle.std.proofs.Common.{sym, ◌∙◌, map, subst}
use Rattle.std.specs.Prelude.{Err}
use Rattle.std.proofs.lemmas.Result.{IfOk-weaker}
use Rattle.sg_explain.specs.sg_facts.Facts.{facts_of}
use Rattle.sg_explain.specs.sg_input.sg_print.sg_parse.Grammar.Parses.{Parses}
use Rattle.sg_explain.specs.sg_input.sg_print.sg_parse.sg_rules.declared.error.ParseError.TheVariants.{Lex, Syntax}
use Rattle.sg_judge.specs.Inside.Examined.{IsExaminedAs}
use Rattle.sg_judge.proofs.Texts.{lex_tells, no_tree, syntax_tells}
use Rattle.sg_judge.proofs.examining.examine_any.Goals as goal

pub returns-in-Ok : goal.returns-in-Ok
returns-in-Ok c =
    IfOk-weaker c.examine_tree.result _ (IsExaminedAs (map facts_of c.args.shapes.now) c.args.text.now) (λ made h. h c.args.text.now c.in-Ok.ensures.answer) c.examine_tree.ensures

pub returns-in-Err-Lex : goal.returns-in-Err-Lex
returns-in-Err-Lex c =
    let text = c.args.text.now in
    let fault = c.in-Err-Lex.field-0 in
    c.flawed.ensures (map facts_of c.args.shapes.now) text
    (no_tree text c.parse.result fault c.parse.ensures.only c.in-Err-Lex.is (λ e. lex_tells c.in-Err-Lex.at (sym c.in-Err-Lex.field-0-is ∙ e)))
    (subst (λ n. Parses text (Err (Lex n))) (sym c.in-Err-Lex.at-is) (subst (λ e. Parses text (Err e)) c.in-Err-Lex.field-0-is c.in-Err-Lex.ensures.answer))

pub returns-in-Err-Syntax : goal.returns-in-Err-Syntax
returns-in-Err-Syntax c =
    let text = c.args.text.now in
    let fault = c.in-Err-Syntax.field-0 in
    c.flawed-in-Err-Syntax.ensures (map facts_of c.args.shapes.now) text
    (no_tree text c.parse.result fault c.parse.ensures.only c.in-Err-Syntax.is (λ e. syntax_tells c.in-Err-Syntax.at (sym c.in-Err-Syntax.field-0-is ∙ e)))
    (subst (λ n. Parses text (Err (Syntax n))) (sym c.in-Err-Syntax.at-is) (subst (λ e. Parses text (Err e)) c.in-Err-Syntax.field-0-is c.in-Err-Syntax.ensures.answer))
