-- What the rule says, and where.
use Rattle.std.proofs.Common.{◌++◌, ◌∙◌, ap, sym, codes}
use Rattle.sg_explain.specs.sg_input.sg_print.RulesText.{term_text}
use Rattle.sg_explain.specs.sg_input.sg_print.sg_parse.sg_lex.Lexeme.{Spelling}
use Rattle.sg_explain.specs.sg_input.sg_print.sg_parse.sg_rules.declared.tree.Rule.{Rule}
use Rattle.sg_judge.specs.AnswerLines.{rule_words, where_words}
use Rattle.sg_judge.proofs.Parts.{named_parts, on_ok, three_parts}
use Rattle.sg_judge.proofs.answers.put_rule_words.Goals as goal

pub returns-in_ok-put-in-Refuse : goal.returns-in_ok-put-in-Refuse
returns-in_ok-put-in-Refuse c =
    let out = c.args.out.now in
    on_ok c.put_where.result
    (λ last. named_parts out (codes " is refused ") c.code.inside.slice.now c.in-Refuse.code.bytes (where_words c.in-Refuse.when) c.put.new.out c.put_where.new.out
    (ap (λ (n : Spelling). n.bytes) c.code.view_is) c.in_ok-put-in-Refuse.ensures last
    ∙ ap (λ (r : Rule). out ++ rule_words r) (sym c.in-Refuse.is))
    c.put_where.ensures

pub returns-in_ok-put_term-in-Give : goal.returns-in_ok-put_term-in-Give
returns-in_ok-put_term-in-Give c =
    let out = c.args.out.now in
    on_ok c.put_where-in-Give.result
    (λ last. three_parts out (codes " is done, and gives ") (term_text c.in-Give.term) (where_words c.in-Give.when)
    c.put-in-Give.new.out c.put_term.new.out c.put_where-in-Give.new.out
    c.in_ok-put-in-Give.ensures c.in_ok-put_term-in-Give.ensures last
    ∙ ap (λ (r : Rule). out ++ rule_words r) (sym c.in-Give.is))
    c.put_where-in-Give.ensures
