-- `ok` and what it gave, or `refused` and a code.
use Rattle.std.proofs.Common.{◌≡◌, ◌∙◌}
use Rattle.std.proofs.lemmas.Result.{err_from_is_err_and}
use Rattle.sg_lex.proofs.Chains.{on_true}
use Rattle.sg_entries.specs.declared.tree.WrittenAnswer.TheVariants.{Refused as refused}
use Rattle.sg_entries.specs.Inside.Ahead.{Came, Off}
use Rattle.sg_entries.specs.Inside.States.{given, answered}
use Rattle.sg_entries.specs.Inside.Reads.{read}
use Rattle.sg_entries.proofs.ByByte.{code_state, ok_came, ok_missing, on_false, ends_along}
use Rattle.sg_entries.proofs.answer.answer.Goals as goal

pub returns-in_err-byte : goal.returns-in_err-byte
returns-in_err-byte c =
    let p = err_from_is_err_and c.from_residual.result c.from_residual.ensures.1 in
    let old = c.args.line.now in
    let new = c.take_byte.new.self in
    let came = on_true (Came 0x6F old new) ((new ≡ old) × Off 0x6F old.rest) c.take_byte.result c.take_byte.ensures c.if-take_byte.true in
    record { ends = λ k. rw (p.1, p.2) (λ ne. ok_came c.args.shown k old new came ∙ c.in_err-byte.ensures.leads (given c.args.shown k) ne) }

pub returns-then-take_byte : goal.returns-then-take_byte
returns-then-take_byte c =
    let old = c.args.line.now in
    let new = c.take_byte.new.self in
    let came = on_true (Came 0x6F old new) ((new ≡ old) × Off 0x6F old.rest) c.take_byte.result c.take_byte.ensures c.if-take_byte.true in
    record {
      ends = λ k.
          ends_along (read (answered c.args.shown k) old) (read (given c.args.shown k) c.byte.new.line) c.given.result k
          (ok_came c.args.shown k old new came ∙ c.in_ok-byte.ensures.leads (given c.args.shown k)) (c.given.ensures.ends k);
    }

pub returns-in_err-fixed : goal.returns-in_err-fixed
returns-in_err-fixed c =
    let p = err_from_is_err_and c.from_residual-in_err-fixed.result c.from_residual-in_err-fixed.ensures.1 in
    let old = c.args.line.now in
    let off = on_false (Came 0x6F old c.take_byte.new.self) old c.take_byte.new.self 0x6F c.take_byte.result c.take_byte.ensures c.if-take_byte.false in
    record { ends = λ k. rw (p.1, p.2) (λ ne. ok_missing c.args.shown k old c.take_byte.new.self off ∙ c.in_err-fixed.ensures.leads (code_state k) ne) }

pub returns-in_err-code : goal.returns-in_err-code
returns-in_err-code c =
    let p = err_from_is_err_and c.from_residual-in_err-code.result c.from_residual-in_err-code.ensures.1 in
    let old = c.args.line.now in
    let off = on_false (Came 0x6F old c.take_byte.new.self) old c.take_byte.new.self 0x6F c.take_byte.result c.take_byte.ensures c.if-take_byte.false in
    record {
      ends = λ k. rw (p.1, p.2) (λ ne.
          ok_missing c.args.shown k old c.take_byte.new.self off ∙ c.in_ok-fixed.ensures.leads (code_state k)
          ∙ c.in_err-code.ensures.ends (λ code. k (refused code)) ne);
    }

pub returns : goal.returns
returns c =
    let old = c.args.line.now in
    let off = on_false (Came 0x6F old c.take_byte.new.self) old c.take_byte.new.self 0x6F c.take_byte.result c.take_byte.ensures c.if-take_byte.false in
    record {
      ends = λ k.
          ok_missing c.args.shown k old c.take_byte.new.self off ∙ c.in_ok-fixed.ensures.leads (code_state k)
          ∙ c.in_ok-code.ensures.ends (λ code. k (refused code));
    }
