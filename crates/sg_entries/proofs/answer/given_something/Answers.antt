-- The descriptor, and then words.
use Rattle.std.proofs.Common.{◌≡◌, ◌∙◌, [], Some, ap, sym}
use Rattle.std.proofs.lemmas.Result.{err_from_is_err_and}
use Rattle.sg_lex.proofs.Chains.{on_true}
use Rattle.sg_entries.specs.Inside.Ahead.{Came, Off}
use Rattle.sg_entries.specs.Inside.States.{words, spaced_rest}
use Rattle.sg_entries.specs.Inside.Reads.{read}
use Rattle.sg_entries.proofs.ByByte.{hash_came, ends_along}
use Rattle.sg_entries.proofs.answer.given_something.Goals as goal

pub returns-in_err-desc : goal.returns-in_err-desc
returns-in_err-desc c =
    let p = err_from_is_err_and c.from_residual.result c.from_residual.ensures.1 in
    let old = c.args.line.now in
    let new = c.take_byte.new.self in
    let came = on_true (Came 0x23 old new) ((new ≡ old) × Off 0x23 old.rest) c.take_byte.result c.take_byte.ensures c.if-take_byte.true in
    record { ends = λ k. rw (p.1, p.2) (λ ne. hash_came k old new came ∙ c.in_err-desc.ensures.leads (λ d. words 4 (Some d) [] k) ne) }

pub returns-then-take_byte : goal.returns-then-take_byte
returns-then-take_byte c =
    let old = c.args.line.now in
    let new = c.take_byte.new.self in
    let came = on_true (Came 0x23 old new) ((new ≡ old) × Off 0x23 old.rest) c.take_byte.result c.take_byte.ensures c.if-take_byte.true in
    record {
      ends = λ k.
          ends_along (read (spaced_rest k) old) (read (words 4 (Some c.in_ok-desc.desc) c.new.result k) c.positive.new.line) c.words.result k
          (hash_came k old new came ∙ c.in_ok-desc.ensures.leads (λ d. words 4 (Some d) [] k)
          ∙ ap (λ v. read (words 4 (Some c.in_ok-desc.desc) v k) c.positive.new.line) (sym c.new.ensures))
          (c.words.ensures.ends k);
    }
