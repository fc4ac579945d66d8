-- The parts so far, and the next.
use Rattle.std.proofs.Common.{◌≡◌, ◌∙◌, [], ◌∷◌, ap, sym}
use Rattle.std.specs.Prelude.{Ok, Err}
use Rattle.std.proofs.lemmas.Result.{err_from_is_err_and}
use Rattle.sg_lex.specs.Lexeme.{Lexeme}
use Rattle.sg_script_parse.specs.Grammar.Inside.States.{script, with_part, scripts}
use Rattle.sg_lex.specs.Inside.Automata.{read}
use Rattle.sg_script_parse.proofs.ByToken.{part_came}
use Rattle.sg_lex.proofs.Chains.{on_some}
use Rattle.sg_script_parse.proofs.parts.parts.Goals as goal

pub returns-in_err-part : goal.returns-in_err-part
returns-in_err-part c =
    let p = err_from_is_err_and c.from_residual-in_err-part.result c.from_residual-in_err-part.ensures.1 in
    let old = c.parts.reader in
    let new = c.next_token.new.reader in
    let came = on_some ((old.rest ≡ []) × (new.rest ≡ [])) (λ (token : Lexeme). old.rest ≡ Ok token ∷ new.rest) c.in_ok-token.field-0 c.in-Some.token c.in_ok-token.ensures.token c.in-Some.is in
    rw (p.1, p.2) (λ ne.
    c.parts.invariant
    ∙ part_came c.args.several c.parts.parts old new c.in-Some.token came c.in_ok-token.ensures.end
    ∙ c.in_err-part.ensures.leads (with_part c.args.several c.parts.parts) (λ e. ne (ap Err e)))

pub parts-preserved : goal.parts-preserved
parts-preserved c =
    let old = c.parts.reader in
    let new = c.next_token.new.reader in
    let came = on_some ((old.rest ≡ []) × (new.rest ≡ [])) (λ (token : Lexeme). old.rest ≡ Ok token ∷ new.rest) c.in_ok-token.field-0 c.in-Some.token c.in_ok-token.ensures.token c.in-Some.is in
    c.parts.invariant
    ∙ part_came c.args.several c.parts.parts old new c.in-Some.token came c.in_ok-token.ensures.end
    ∙ c.in_ok-part.ensures.leads (with_part c.args.several c.parts.parts)
    ∙ ap (λ v. read scripts (script c.args.several v) c.part.new.reader) (sym c.in_ok-push.ensures.ok)
