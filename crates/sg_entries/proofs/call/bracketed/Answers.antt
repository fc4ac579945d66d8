-- The arguments so far, a comma and a space, and the next.
use Rattle.std.proofs.Common.{◌≡◌, ◌∙◌, ◌∷◌, [], ◌++◌, ap, sym}
use Rattle.std.proofs.lemmas.Result.{err_from_is_err_and}
use Rattle.sg_lex.proofs.Chains.{on_true}
use Rattle.sg_lex.specs.Inside.Marks.{comma_byte}
use Rattle.sg_entries.specs.Inside.Ahead.{Came, Off}
use Rattle.sg_entries.specs.Inside.States.{argument, listed}
use Rattle.sg_entries.specs.Inside.Reads.{read}
use Rattle.sg_entries.proofs.ByByte.{comma_came}
use Rattle.sg_entries.proofs.call.bracketed.Goals as goal

pub returns-in_err-byte : goal.returns-in_err-byte
returns-in_err-byte c =
    let p = err_from_is_err_and c.from_residual-in_err-byte.result c.from_residual-in_err-byte.ensures.1 in
    let old = c.commas.line in
    let new = c.take_byte-in-commas.new.self in
    let came = on_true (Came comma_byte old new) ((new ≡ old) × Off comma_byte old.rest) c.take_byte-in-commas.result c.take_byte-in-commas.ensures c.commas-test.true in
    record {
      leads = λ k.
          rw (p.1, p.2) (λ ne. c.commas.invariant k ∙ comma_came c.commas.args k old new came ∙ c.in_err-byte.ensures.leads (argument (λ a. listed (c.commas.args ++ a ∷ []) k)) ne);
    }

pub returns-in_err-argument-2 : goal.returns-in_err-argument-2
returns-in_err-argument-2 c =
    let p = err_from_is_err_and c.from_residual-in_err-argument-2.result c.from_residual-in_err-argument-2.ensures.1 in
    let old = c.commas.line in
    let new = c.take_byte-in-commas.new.self in
    let came = on_true (Came comma_byte old new) ((new ≡ old) × Off comma_byte old.rest) c.take_byte-in-commas.result c.take_byte-in-commas.ensures c.commas-test.true in
    record {
      leads = λ k.
          rw (p.1, p.2) (λ ne.
          c.commas.invariant k
          ∙ comma_came c.commas.args k old new came
          ∙ c.in_ok-byte.ensures.leads (argument (λ a. listed (c.commas.args ++ a ∷ []) k))
          ∙ c.in_err-argument-2.ensures.leads (λ a. listed (c.commas.args ++ a ∷ []) k) ne);
    }

pub commas-preserved : goal.commas-preserved
commas-preserved c = λ k.
    let old = c.commas.line in
    let new = c.take_byte-in-commas.new.self in
    let came = on_true (Came comma_byte old new) ((new ≡ old) × Off comma_byte old.rest) c.take_byte-in-commas.result c.take_byte-in-commas.ensures c.commas-test.true in
    c.commas.invariant k
    ∙ comma_came c.commas.args k old new came
    ∙ c.in_ok-byte.ensures.leads (argument (λ a. listed (c.commas.args ++ a ∷ []) k))
    ∙ c.in_ok-argument-2.ensures.leads (λ a. listed (c.commas.args ++ a ∷ []) k)
    ∙ ap (λ v. read (listed v k) c.argument-in-commas.new.line) (sym c.in_ok-push.ensures.ok)
