-- The arguments so far, a comma and a space, and the next.
use Rattle.std.proofs.Common.{◌≡◌, ◌∙◌, ◌∷◌, [], ◌++◌, suc, length, length-append, refl, ap, sym, arith}
use Rattle.std.proofs.lemmas.Result.{err_from_is_err_and}
use Rattle.sg_lex.proofs.Chains.{on_true}
use Rattle.sg_lex.specs.Inside.Marks.{close_bracket_byte, comma_byte}
use Rattle.sg_entries.specs.Inside.Ahead.{Came, Off}
use Rattle.sg_entries.specs.Inside.States.{argument, listed}
use Rattle.sg_entries.specs.Inside.Reads.{read}
use Rattle.sg_entries.proofs.ByByte.{comma_came, on_false, some_argument}
use Rattle.sg_entries.proofs.call.count_bracketed.Goals as goal

pub commas-init : goal.commas-init
commas-init c =
    let old = c.args.line.now in
    let new = c.take_byte.new.self in
    let off = on_false (Came close_bracket_byte old new) old new close_bracket_byte c.take_byte.result c.take_byte.ensures c.if-take_byte.false in
    let short = c.in_ok-argument.ensures.short in
    record {
      few = omega (arith, short);
      counted = (
        c.in_ok-argument.field-0 ∷ [],
        refl,
        λ k. some_argument k old off.1 ∙ ap (read (argument (λ a. listed (a ∷ []) k))) (sym off.0) ∙ c.in_ok-argument.ensures.leads (λ a. listed (a ∷ []) k),
      );
    }

pub returns-in_err-byte : goal.returns-in_err-byte
returns-in_err-byte c =
    let p = err_from_is_err_and c.from_residual-in_err-byte.result c.from_residual-in_err-byte.ensures.1 in
    let old = c.commas.line in
    let new = c.take_byte-in-commas.new.self in
    let came = on_true (Came comma_byte old new) ((new ≡ old) × Off comma_byte old.rest) c.take_byte-in-commas.result c.take_byte-in-commas.ensures c.commas-test.true in
    let args = c.commas.invariant.counted.0 in
    record {
      leads = λ k.
          rw (p.1, p.2) (λ ne.
          c.commas.invariant.counted.2 k ∙ comma_came args k old new came ∙ c.in_err-byte.ensures.leads (argument (λ a. listed (args ++ a ∷ []) k)) ne);
    }

pub returns-in_err-argument-2 : goal.returns-in_err-argument-2
returns-in_err-argument-2 c =
    let p = err_from_is_err_and c.from_residual-in_err-argument-2.result c.from_residual-in_err-argument-2.ensures.1 in
    let old = c.commas.line in
    let new = c.take_byte-in-commas.new.self in
    let came = on_true (Came comma_byte old new) ((new ≡ old) × Off comma_byte old.rest) c.take_byte-in-commas.result c.take_byte-in-commas.ensures c.commas-test.true in
    let args = c.commas.invariant.counted.0 in
    record {
      leads = λ k.
          rw (p.1, p.2) (λ ne.
          c.commas.invariant.counted.2 k
          ∙ comma_came args k old new came
          ∙ c.in_ok-byte.ensures.leads (argument (λ a. listed (args ++ a ∷ []) k))
          ∙ c.in_err-argument-2.ensures.leads (λ a. listed (args ++ a ∷ []) k) ne);
    }

pub commas-preserved : goal.commas-preserved
commas-preserved c =
    let old = c.commas.line in
    let new = c.take_byte-in-commas.new.self in
    let came = on_true (Came comma_byte old new) ((new ≡ old) × Off comma_byte old.rest) c.take_byte-in-commas.result c.take_byte-in-commas.ensures c.commas-test.true in
    let args = c.commas.invariant.counted.0 in
    let next = c.in_ok-argument-2.field-0 in
    record {
      few = (
          let taken : length old.rest ≡ suc (length new.rest) = ap length came.all in
          let space = c.in_ok-byte.ensures.fewer in
          let argument = c.in_ok-argument-2.ensures.fewer in
          let few = c.commas.invariant.few in
          omega (arith, taken, space, argument, few));
      counted = (
        args ++ next ∷ [],
        (let counted = c.commas.invariant.counted.1 in let longer = length-append args (next ∷ []) in omega (arith, counted, longer)),
        λ k. c.commas.invariant.counted.2 k
            ∙ comma_came args k old new came
            ∙ c.in_ok-byte.ensures.leads (argument (λ a. listed (args ++ a ∷ []) k))
            ∙ c.in_ok-argument-2.ensures.leads (λ a. listed (args ++ a ∷ []) k),
      );
    }
