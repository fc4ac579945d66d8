-- The fields so far, a comma, and the next.
use Rattle.std.proofs.Common.{◌≡◌, ◌∙◌, [], ◌∷◌, ◌++◌, suc, length, ap, sym, arith}
use Rattle.std.proofs.lemmas.Result.{err_from_is_err_and}
use Rattle.sg_rules.specs.sg_lex.Lexeme.{Spelling as Named}
use Rattle.sg_rules.specs.sg_lex.Inside.Ahead.{Came, Off}
use Rattle.sg_rules.specs.sg_lex.Inside.Automata.{read}
use Rattle.sg_rules.proofs.sg_lex.Chains.{on_true}
use Rattle.sg_parse.specs.Grammar.Inside.Forms.{comma}
use Rattle.sg_parse.specs.Grammar.Inside.States.{fielded, fits, trees}
use Rattle.sg_parse.proofs.ByToken.{field_came}
use Rattle.sg_parse.proofs.statements.fields.Goals as goal

pub returns-in_err-word_of-2-clause-leads : goal.returns-in_err-word_of-2-clause-leads
returns-in_err-word_of-2-clause-leads c = λ k.
    let p = err_from_is_err_and c.from_residual-in_err-word_of-2.result c.from_residual-in_err-word_of-2.ensures.1 in
    let old = c.fields.reader in
    let new = c.take_mark.new.reader in
    let came = on_true (Came (fits comma) old.rest new.rest) ((new ≡ old) × Off (fits comma) old.rest) c.in_ok-take_mark.field-0 c.in_ok-take_mark.ensures.mark c.if-branch.true in
    rw (p.1, p.2) (λ ne.
    c.fields.invariant.read_so_far k
    ∙ field_came c.fields.fields k old new came c.in_ok-take_mark.ensures.end
    ∙ c.in_err-word_of-2.ensures.leads (λ (n : Named). fielded (c.fields.fields ++ n ∷ []) k) ne)

pub fields-preserved : goal.fields-preserved
fields-preserved c =
    let old = c.fields.reader in
    let new = c.take_mark.new.reader in
    let came = on_true (Came (fits comma) old.rest new.rest) ((new ≡ old) × Off (fits comma) old.rest) c.in_ok-take_mark.field-0 c.in_ok-take_mark.ensures.mark c.if-branch.true in
    let shorter : length old.rest ≡ suc (length new.rest) = ap length came.all in
    record {
      read_so_far = λ k.
          c.fields.invariant.read_so_far k
          ∙ field_came c.fields.fields k old new came c.in_ok-take_mark.ensures.end
          ∙ c.in_ok-word_of-2.ensures.leads (λ (n : Named). fielded (c.fields.fields ++ n ∷ []) k)
          ∙ ap (λ v. read trees (fielded v k) c.word_of-in-fields.new.reader) (sym c.in_ok-push-2.ensures.ok);
      fewer = omega (arith, c.fields.invariant.fewer, c.in_ok-word_of-2.ensures.fewer);
    }
