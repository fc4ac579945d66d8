-- The descriptor, a space, and then words and bytes.
use Rattle.std.proofs.Common.{◌≡◌, ◌∙◌, [], Some}
use Rattle.std.proofs.lemmas.Result.{err_from_is_err_and}
use Rattle.sg_lex.proofs.Chains.{on_true}
use Rattle.sg_entries.specs.Inside.Ahead.{Came, Off}
use Rattle.sg_entries.specs.Inside.States.{byte, words_and_bytes, shown_rest}
use Rattle.sg_entries.specs.Inside.Reads.{read}
use Rattle.sg_entries.proofs.ByByte.{shown_hash_came, ends_along}
use Rattle.sg_entries.proofs.answer.given_with_bytes.Goals as goal

pub returns-in_err-desc : goal.returns-in_err-desc
returns-in_err-desc c =
    let p = err_from_is_err_and c.from_residual.result c.from_residual.ensures.1 in
    let old = c.args.line.now in
    let new = c.take_byte.new.self in
    let came = on_true (Came 0x23 old new) ((new ≡ old) × Off 0x23 old.rest) c.take_byte.result c.take_byte.ensures c.if-take_byte.true in
    record { ends = λ k. rw (p.1, p.2) (λ ne. shown_hash_came k old new came ∙ c.in_err-desc.ensures.leads (λ d. byte 0x20 (words_and_bytes 4 (Some d) [] k)) ne) }

pub returns-in_err-byte : goal.returns-in_err-byte
returns-in_err-byte c =
    let p = err_from_is_err_and c.from_residual-in_err-byte.result c.from_residual-in_err-byte.ensures.1 in
    let old = c.args.line.now in
    let new = c.take_byte.new.self in
    let came = on_true (Came 0x23 old new) ((new ≡ old) × Off 0x23 old.rest) c.take_byte.result c.take_byte.ensures c.if-take_byte.true in
    record {
      ends = λ k.
          rw (p.1, p.2) (λ ne.
          shown_hash_came k old new came ∙ c.in_ok-desc.ensures.leads (λ d. byte 0x20 (words_and_bytes 4 (Some d) [] k))
          ∙ c.in_err-byte.ensures.leads (words_and_bytes 4 (Some c.in_ok-desc.desc) [] k) ne);
    }

pub returns-then-take_byte : goal.returns-then-take_byte
returns-then-take_byte c =
    let old = c.args.line.now in
    let new = c.take_byte.new.self in
    let came = on_true (Came 0x23 old new) ((new ≡ old) × Off 0x23 old.rest) c.take_byte.result c.take_byte.ensures c.if-take_byte.true in
    record {
      ends = λ k.
          ends_along (read (shown_rest k) old) (read (words_and_bytes 4 (Some c.in_ok-desc.desc) [] k) c.byte.new.line) c.words_and_bytes.result k
          (shown_hash_came k old new came ∙ c.in_ok-desc.ensures.leads (λ d. byte 0x20 (words_and_bytes 4 (Some d) [] k))
          ∙ c.in_ok-byte.ensures.leads (words_and_bytes 4 (Some c.in_ok-desc.desc) [] k))
          (c.words_and_bytes.ensures.ends k);
    }
