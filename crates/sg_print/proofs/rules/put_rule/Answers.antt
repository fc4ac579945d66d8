-- What holds of the row that is given, and the code.
use Rattle.std.proofs.Common.{List, [], ◌++◌, ◌∙◌, ap, sym, codes}
use Rattle.std.specs.List.{join_by}
use Rattle.sg_parse.specs.sg_lex.Lexeme.{Spelling}
use Rattle.sg_parse.specs.sg_rules.declared.tree.Pick.{Pick}
use Rattle.sg_parse.specs.sg_rules.declared.tree.Rule.{Rule}
use Rattle.sg_print.specs.RulesText.{pick_text, rule_text}
use Rattle.sg_print.proofs.Rows.{on_ok, three_parts}
use Rattle.sg_print.proofs.rules.put_rule.Goals as goal

pub returns-in_ok-put_picks-in-GiveRow : goal.returns-in_ok-put_picks-in-GiveRow
returns-in_ok-put_picks-in-GiveRow c =
    let out = c.args.out.now in
    let picks = c.as_slice.result.now in
    let code = c.code-in-GiveRow.inside.slice.now in
    on_ok c.put-in-GiveRow-2.result
    (λ last. three_parts out (codes "give row where ") (join_by pick_text (codes ", ") picks) (codes " else " ++ (code ++ []))
    c.put-in-GiveRow.new.out c.put_picks.new.out c.put-in-GiveRow-2.new.out
    c.in_ok-put-in-GiveRow.ensures c.in_ok-put_picks-in-GiveRow.ensures last
    ∙ ap (λ (ps : List Pick). out ++ (codes "give row where " ++ (join_by pick_text (codes ", ") ps ++ (codes " else " ++ (code ++ []))))) c.as_slice.ensures
    ∙ ap (λ (n : Spelling). out ++ (codes "give row where " ++ (join_by pick_text (codes ", ") c.in-GiveRow.picks ++ (codes " else " ++ (n.bytes ++ []))))) c.code-in-GiveRow.view_is
    ∙ ap (λ (r : Rule). out ++ rule_text r) (sym c.in-GiveRow.is))
    c.put-in-GiveRow-2.ensures
