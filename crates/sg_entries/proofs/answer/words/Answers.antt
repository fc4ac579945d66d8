-- The words so far, and the next; or the end.
use Rattle.std.proofs.Common.{◌-◌, ◌∙◌, [], ◌∷◌, ◌++◌, None, ap, sym}
use Rattle.std.proofs.lemmas.Result.{err_from_is_err_and}
use Rattle.sg_entries.specs.declared.tree.WrittenAnswer.TheVariants.{Ok as gave}
use Rattle.sg_entries.specs.Inside.States.{words, done}
use Rattle.sg_entries.specs.Inside.Reads.{read}
use Rattle.sg_entries.proofs.ByByte.{on_word, on_none}
use Rattle.sg_entries.proofs.answer.words.Goals as goal

pub words-preserved : goal.words-preserved
words-preserved c = λ k.
    let desc = c.args.desc in
    let ws = c.words.words in
    let left = c.words.left in
    c.words.invariant k
    ∙ on_word (read (words left desc ws k) c.words.line) c.in_ok-word.field-0 c.in-Some.word (λ w. words (left - 1) desc (ws ++ w ∷ []) k) (done (k (gave desc ws None)))
    c.next_word.new.line (c.in_ok-word.ensures.leads desc ws k) c.in-Some.is
    ∙ ap (λ v. read (words (left - 1) desc v k) c.next_word.new.line) (sym c.in_ok-push.ensures.ok)

pub returns-in_err-end : goal.returns-in_err-end
returns-in_err-end c =
    let p = err_from_is_err_and c.from_residual-in_err-end.result c.from_residual-in_err-end.ensures.1 in
    let desc = c.args.desc in
    let ws = c.words.words in
    let left = c.words.left in
    record {
      ends = λ k.
          rw (p.1, p.2) (λ ne.
          c.words.invariant k
          ∙ on_none (read (words left desc ws k) c.words.line) c.in_ok-word.field-0 (λ w. words (left - 1) desc (ws ++ w ∷ []) k) (done (k (gave desc ws None)))
          c.next_word.new.line (c.in_ok-word.ensures.leads desc ws k) c.in_default.not-Some
          ∙ c.in_err-end.ensures.ends (k (gave desc ws None)) ne);
    }

pub returns : goal.returns
returns c =
    let desc = c.args.desc in
    let ws = c.words.words in
    let left = c.words.left in
    record {
      ends = λ k.
          c.words.invariant k
          ∙ on_none (read (words left desc ws k) c.words.line) c.in_ok-word.field-0 (λ w. words (left - 1) desc (ws ++ w ∷ []) k) (done (k (gave desc ws None)))
          c.next_word.new.line (c.in_ok-word.ensures.leads desc ws k) c.in_default.not-Some
          ∙ c.in_ok-end.ensures.ends (k (gave desc ws None));
    }
