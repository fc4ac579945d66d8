-- The calls so far, and the next.
use Rattle.std.proofs.Common.{◌≡◌, ◌∙◌, ◌∷◌, ap, sym, arith}
use Rattle.std.specs.Prelude.{Ok}
use Rattle.std.proofs.lemmas.Grind.{common_steps}
use Rattle.std.proofs.lemmas.Result.{err_from_is_err_and}
use Rattle.sg_lex.specs.declared.token.TokenKind.TheVariants.{Word}
use Rattle.sg_lex.specs.Lexeme.{Spelling}
use Rattle.sg_script_parse.specs.Grammar.Inside.States.{body, scripts}
use Rattle.sg_lex.specs.Inside.Tests.{has_kind}
use Rattle.sg_lex.specs.Inside.Automata.{read}
use Rattle.sg_script_parse.specs.Inside.{spelt_token}
use Rattle.sg_lex.specs.Inside.Ahead.{Off}
use Rattle.sg_script_parse.proofs.ByToken.{with_call, name_came}
use Rattle.sg_lex.proofs.Chains.{on_some}
use Rattle.sg_script_parse.proofs.calls.braced.Goals as goal

pub returns-in_err-call-clause-leads : goal.returns-in_err-call-clause-leads
returns-in_err-call-clause-leads c = λ k.
    let p = err_from_is_err_and c.from_residual-in_err-call.result c.from_residual-in_err-call.ensures.1 in
    let old = c.calls.reader in
    let new = c.take_spelled.new.reader in
    let came = on_some ((new ≡ old) × Off (has_kind Word) old.rest) (λ (s : Spelling). old.rest ≡ Ok (spelt_token Word s) ∷ new.rest) c.in_ok-name.field-0 c.in-Some.name c.in_ok-name.ensures.spelling c.in-Some.is in
    rw (p.1, p.2) (λ ne.
    c.calls.invariant.read_so_far k
    ∙ name_came c.calls.calls k c.in-Some.name old new came c.in_ok-name.ensures.end
    ∙ c.in_err-call.ensures.leads (with_call c.calls.calls k) ne)

pub calls-preserved : goal.calls-preserved
calls-preserved c =
    let old = c.calls.reader in
    let new = c.take_spelled.new.reader in
    let came = on_some ((new ≡ old) × Off (has_kind Word) old.rest) (λ (s : Spelling). old.rest ≡ Ok (spelt_token Word s) ∷ new.rest) c.in_ok-name.field-0 c.in-Some.name c.in_ok-name.ensures.spelling c.in-Some.is in
    record {
      read_so_far = λ k.
          c.calls.invariant.read_so_far k
          ∙ name_came c.calls.calls k c.in-Some.name old new came c.in_ok-name.ensures.end
          ∙ c.in_ok-call.ensures.leads (with_call c.calls.calls k)
          ∙ ap (λ v. read scripts (body v k) c.call.new.reader) (sym c.in_ok-push.ensures.ok);
      fewer = grind (arith, common_steps, came, c.calls.invariant.fewer, c.in_ok-call.ensures.fewer);
    }
