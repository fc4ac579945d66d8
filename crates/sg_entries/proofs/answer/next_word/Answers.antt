-- A space, and the word after it.
use Rattle.std.proofs.Common.{◌≡◌, ◌-◌, ◌∙◌, [], ◌∷◌, ◌++◌}
use Rattle.std.proofs.lemmas.Result.{err_from_is_err_and}
use Rattle.sg_lex.proofs.Chains.{on_true}
use Rattle.sg_entries.specs.Inside.Ahead.{Came, Off}
use Rattle.sg_entries.specs.Inside.States.{words}
use Rattle.sg_entries.proofs.ByByte.{word_came}
use Rattle.sg_entries.proofs.answer.next_word.Goals as goal

pub returns-in_err-number-clause-leads : goal.returns-in_err-number-clause-leads
returns-in_err-number-clause-leads c =
    let p = err_from_is_err_and c.from_residual.result c.from_residual.ensures.1 in
    let old = c.args.line.now in
    let new = c.take_byte.new.self in
    let came = on_true (Came 0x20 old new) ((new ≡ old) × Off 0x20 old.rest) c.take_byte.result c.take_byte.ensures c.if-not-take_byte.false in
    λ desc ws k.
    rw (p.1, p.2) (λ ne.
    word_came c.args.left desc ws k old new c.if-left-eq0.false came ∙ c.in_err-number.ensures.leads (λ w. words (c.args.left - 1) desc (ws ++ w ∷ []) k) ne)

pub returns-clause-leads : goal.returns-clause-leads
returns-clause-leads c =
    let old = c.args.line.now in
    let new = c.take_byte.new.self in
    let came = on_true (Came 0x20 old new) ((new ≡ old) × Off 0x20 old.rest) c.take_byte.result c.take_byte.ensures c.if-not-take_byte.false in
    λ desc ws k.
    word_came c.args.left desc ws k old new c.if-left-eq0.false came ∙ c.in_ok-number.ensures.leads (λ w. words (c.args.left - 1) desc (ws ++ w ∷ []) k)
