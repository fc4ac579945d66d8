-- The statements that only a text of version 3 has, part by part.
use Rattle.std.proofs.Common.{List, ◌++◌, ◌∙◌, ap, sym, codes}
use Rattle.sg_parse.specs.sg_lex.Lexeme.{Spelling}
use Rattle.sg_parse.specs.declared.tree.Statement.{Statement}
use Rattle.sg_parse.specs.declared.tree.Statement.TheVariants.{External, Most, Unique}
use Rattle.sg_print.specs.Printed.{statement_text}
use Rattle.sg_print.specs.Inside.Pieces.{fields_text}
use Rattle.sg_print.proofs.Rows.{on_ok, three_parts}
use Rattle.sg_print.proofs.statements.put_statement.Goals as goal

pub returns-in-External : goal.returns-in-External
returns-in-External c =
    let out = c.args.out.now in
    on_ok c.put-in-External.result
    (λ e. e ∙ ap (λ (n : Spelling). out ++ statement_text (External n)) c.fun-in-External.view_is ∙ ap (λ (s : Statement). out ++ statement_text s) (sym c.in-External.is))
    c.put-in-External.ensures

pub returns-in-Most : goal.returns-in-Most
returns-in-Most c =
    let out = c.args.out.now in
    let most : Spelling = record { bytes = c.most.inside.slice.now; at = c.most.inside.at } in
    on_ok c.put-in-Most.result
    (λ e. e ∙ ap (λ (n : Spelling). out ++ statement_text (Most n most)) c.field.view_is
    ∙ ap (λ (n : Spelling). out ++ statement_text (Most c.in-Most.field n)) c.most.view_is
    ∙ ap (λ (s : Statement). out ++ statement_text s) (sym c.in-Most.is))
    c.put-in-Most.ensures

pub returns-in_ok-put_fields-in-Unique : goal.returns-in_ok-put_fields-in-Unique
returns-in_ok-put_fields-in-Unique c =
    let out = c.args.out.now in
    let fields = c.as_slice-in-Unique.result.now in
    on_ok c.put-in-Unique-2.result
    (λ last. three_parts out (codes "desc_data_unique(") (fields_text fields) (codes ");\n") c.put-in-Unique.new.out c.put_fields.new.out c.put-in-Unique-2.new.out
    c.in_ok-put-in-Unique.ensures c.in_ok-put_fields-in-Unique.ensures last
    ∙ ap (λ (ns : List Spelling). out ++ statement_text (Unique ns)) c.as_slice-in-Unique.ensures
    ∙ ap (λ (s : Statement). out ++ statement_text s) (sym c.in-Unique.is))
    c.put-in-Unique-2.ensures
