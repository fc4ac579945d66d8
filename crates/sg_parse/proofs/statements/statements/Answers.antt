-- The statements so far, and the next.
use Rattle.std.proofs.Common.{◌≡◌, ◌∙◌, [], ◌∷◌, ap, sym}
use Rattle.std.specs.Prelude.{Ok, Err}
use Rattle.std.proofs.lemmas.Result.{err_from_is_err_and}
use Rattle.sg_rules.specs.sg_lex.Lexeme.{Lexeme}
use Rattle.sg_parse.specs.Grammar.Inside.States.{statements, with_statement, trees}
use Rattle.sg_rules.specs.sg_lex.Inside.Automata.{read}
use Rattle.sg_parse.proofs.ByToken.{statement_came}
use Rattle.sg_rules.proofs.sg_lex.Chains.{on_some}
use Rattle.sg_parse.proofs.statements.statements.Goals as goal

pub returns-in_err-statement : goal.returns-in_err-statement
returns-in_err-statement c =
    let p = err_from_is_err_and c.from_residual-in_err-statement.result c.from_residual-in_err-statement.ensures.1 in
    let old = c.statements.reader in
    let new = c.next_token.new.reader in
    let came = on_some ((old.rest ≡ []) × (new.rest ≡ [])) (λ (token : Lexeme). old.rest ≡ Ok token ∷ new.rest) c.in_ok-token.field-0 c.in-Some.token c.in_ok-token.ensures.token c.in-Some.is in
    rw (p.1, p.2) (λ ne.
    c.statements.invariant
    ∙ statement_came c.args.facts c.statements.statements old new c.in-Some.token came c.in_ok-token.ensures.end
    ∙ c.in_err-statement.ensures.leads (with_statement c.args.facts c.statements.statements) (λ e. ne (ap Err e)))

pub statements-preserved : goal.statements-preserved
statements-preserved c =
    let old = c.statements.reader in
    let new = c.next_token.new.reader in
    let came = on_some ((old.rest ≡ []) × (new.rest ≡ [])) (λ (token : Lexeme). old.rest ≡ Ok token ∷ new.rest) c.in_ok-token.field-0 c.in-Some.token c.in_ok-token.ensures.token c.in-Some.is in
    c.statements.invariant
    ∙ statement_came c.args.facts c.statements.statements old new c.in-Some.token came c.in_ok-token.ensures.end
    ∙ c.in_ok-statement.ensures.leads (with_statement c.args.facts c.statements.statements)
    ∙ ap (λ v. read trees (statements c.args.facts v) c.statement.new.reader) (sym c.in_ok-push.ensures.ok)
