-- The arguments so far, a comma, and the next.
use Rattle.std.proofs.Common.{◌≡◌, ◌∙◌, [], ◌∷◌, ◌++◌, ap, sym, arith}
use Rattle.std.proofs.lemmas.Grind.{common_steps}
use Rattle.std.proofs.lemmas.Result.{err_from_is_err_and}
use Rattle.sg_script_parse.specs.Grammar.Inside.States.{listed, scripts}
use Rattle.sg_lex.specs.Inside.Tests.{is_this_mark}
use Rattle.sg_lex.specs.Inside.Automata.{read}
use Rattle.sg_lex.specs.Inside.Ahead.{Came, Off}
use Rattle.sg_script_parse.proofs.ByToken.{comma_came}
use Rattle.sg_lex.proofs.Chains.{on_true}
use Rattle.sg_lex.specs.Inside.Marks.{comma_byte}
use Rattle.sg_script_parse.proofs.calls.bracketed.Goals as goal

pub returns-in_err-argument-2-clause-leads : goal.returns-in_err-argument-2-clause-leads
returns-in_err-argument-2-clause-leads c = λ k.
    let p = err_from_is_err_and c.from_residual-in_err-argument-2.result c.from_residual-in_err-argument-2.ensures.1 in
    let old = c.commas.reader in
    let new = c.take_mark-in-commas.new.reader in
    let came = on_true (Came (is_this_mark comma_byte) old.rest new.rest) ((new ≡ old) × Off (is_this_mark comma_byte) old.rest) c.in_ok-take_mark-2.field-0 c.in_ok-take_mark-2.ensures.mark c.if-branch-2.true in
    rw (p.1, p.2) (λ ne.
    c.commas.invariant.read_so_far k
    ∙ comma_came c.commas.args k old new came c.in_ok-take_mark-2.ensures.end
    ∙ c.in_err-argument-2.ensures.leads (λ a. listed (c.commas.args ++ a ∷ []) k) ne)

pub commas-preserved : goal.commas-preserved
commas-preserved c =
    let old = c.commas.reader in
    let new = c.take_mark-in-commas.new.reader in
    let came = on_true (Came (is_this_mark comma_byte) old.rest new.rest) ((new ≡ old) × Off (is_this_mark comma_byte) old.rest) c.in_ok-take_mark-2.field-0 c.in_ok-take_mark-2.ensures.mark c.if-branch-2.true in
    record {
      read_so_far = λ k.
          c.commas.invariant.read_so_far k
          ∙ comma_came c.commas.args k old new came c.in_ok-take_mark-2.ensures.end
          ∙ c.in_ok-argument-2.ensures.leads (λ a. listed (c.commas.args ++ a ∷ []) k)
          ∙ ap (λ v. read scripts (listed v k) c.argument-in-commas.new.reader) (sym c.in_ok-push.ensures.ok);
      fewer = let all = came.all in grind (arith, common_steps, all, c.commas.invariant.fewer, c.in_ok-argument-2.ensures.fewer);
    }
