-- The comma, the line's beginning and the word.
use Rattle.std.proofs.Common.{◌≡◌, ◌++◌, ◌∙◌, ap, append-nil, codes, false}
use Rattle.std.specs.Prelude.{◌==◌}
use Rattle.std.proofs.lemmas.Bool.{ne_eqb}
use Rattle.sg_print.proofs.Rows.{on_ok}
use Rattle.sg_print.proofs.statements.put_recovery.Goals as goal

pub returns-else-version-eq1 : goal.returns-else-version-eq1
returns-else-version-eq1 c =
    let newer : (c.args.version == 1) ≡ false = ne_eqb c.args.version 1 c.if-version-eq1.false in
    rw newer (on_ok c.put.result (λ e. e ∙ ap (λ l. c.args.out.now ++ (codes ",\n    desc_recover = " ++ l)) (append-nil c.recovery_word.result.now ∙ c.recovery_word.ensures)) c.put.ensures)
