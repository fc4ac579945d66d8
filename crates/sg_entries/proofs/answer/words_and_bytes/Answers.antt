-- The words so far, and the next; or the text and the end.
use Rattle.std.proofs.Common.{◌-◌, ◌∙◌, [], ◌∷◌, ◌++◌, Some, ap, sym}
use Rattle.std.proofs.lemmas.Result.{err_from_is_err_and}
use Rattle.sg_entries.specs.declared.tree.WrittenAnswer.TheVariants.{Ok as gave}
use Rattle.sg_entries.specs.Inside.States.{words_and_bytes, text_rest}
use Rattle.sg_entries.specs.Inside.Reads.{read}
use Rattle.sg_entries.proofs.ByByte.{last_text, on_word, on_none}
use Rattle.sg_entries.proofs.answer.words_and_bytes.Goals as goal

pub words-preserved : goal.words-preserved
words-preserved c = λ k.
    let desc = c.args.desc in
    let ws = c.words.words in
    let left = c.words.left in
    let new = c.next_shown_word.new.line in
    c.words.invariant k
    ∙ on_word (read (words_and_bytes left desc ws k) c.words.line) c.in_ok-word.field-0 c.in-Some.word (λ w. words_and_bytes (left - 1) desc (ws ++ w ∷ []) k)
    (text_rest new.at (last_text desc ws k)) new (c.in_ok-word.ensures.leads desc ws k) c.in-Some.is
    ∙ ap (λ v. read (words_and_bytes (left - 1) desc v k) new) (sym c.in_ok-push.ensures.ok)

pub returns-in_err-bytes : goal.returns-in_err-bytes
returns-in_err-bytes c =
    let p = err_from_is_err_and c.from_residual-in_err-bytes.result c.from_residual-in_err-bytes.ensures.1 in
    let desc = c.args.desc in
    let ws = c.words.words in
    let left = c.words.left in
    let new = c.next_shown_word.new.line in
    record {
      ends = λ k.
          rw (p.1, p.2) (λ ne.
          c.words.invariant k
          ∙ on_none (read (words_and_bytes left desc ws k) c.words.line) c.in_ok-word.field-0 (λ w. words_and_bytes (left - 1) desc (ws ++ w ∷ []) k)
          (text_rest new.at (last_text desc ws k)) new (c.in_ok-word.ensures.leads desc ws k) c.in_default.not-Some
          ∙ c.in_err-bytes.ensures.leads (last_text desc ws k) ne);
    }

pub returns-in_err-end : goal.returns-in_err-end
returns-in_err-end c =
    let p = err_from_is_err_and c.from_residual-in_err-end.result c.from_residual-in_err-end.ensures.1 in
    let desc = c.args.desc in
    let ws = c.words.words in
    let left = c.words.left in
    let new = c.next_shown_word.new.line in
    record {
      ends = λ k.
          rw (p.1, p.2) (λ ne.
          c.words.invariant k
          ∙ on_none (read (words_and_bytes left desc ws k) c.words.line) c.in_ok-word.field-0 (λ w. words_and_bytes (left - 1) desc (ws ++ w ∷ []) k)
          (text_rest new.at (last_text desc ws k)) new (c.in_ok-word.ensures.leads desc ws k) c.in_default.not-Some
          ∙ c.in_ok-bytes.ensures.leads (last_text desc ws k)
          ∙ c.in_err-end.ensures.ends (k (gave desc ws (Some c.in_ok-bytes.bytes))) ne);
    }

pub returns : goal.returns
returns c =
    let desc = c.args.desc in
    let ws = c.words.words in
    let left = c.words.left in
    let new = c.next_shown_word.new.line in
    record {
      ends = λ k.
          c.words.invariant k
          ∙ on_none (read (words_and_bytes left desc ws k) c.words.line) c.in_ok-word.field-0 (λ w. words_and_bytes (left - 1) desc (ws ++ w ∷ []) k)
          (text_rest new.at (last_text desc ws k)) new (c.in_ok-word.ensures.leads desc ws k) c.in_default.not-Some
          ∙ c.in_ok-bytes.ensures.leads (last_text desc ws k)
          ∙ c.in_ok-end.ensures.ends (k (gave desc ws (Some c.in_ok-bytes.bytes)));
    }
