-- A quote, and then the text.
use Rattle.std.proofs.Common.{◌≡◌, ◌∙◌}
use Rattle.std.proofs.lemmas.Result.{err_from_is_err_and}
use Rattle.sg_lex.proofs.Chains.{on_true}
use Rattle.sg_entries.specs.declared.tree.WrittenArg.TheVariants.{Text}
use Rattle.sg_entries.specs.Inside.Forms.{quote_byte}
use Rattle.sg_entries.specs.Inside.Ahead.{Came, Off}
use Rattle.sg_entries.proofs.ByByte.{quote_came}
use Rattle.sg_entries.proofs.call.argument.Goals as goal

pub returns-in_err-text_rest-clause-leads : goal.returns-in_err-text_rest-clause-leads
returns-in_err-text_rest-clause-leads c = λ k.
    let p = err_from_is_err_and c.from_residual.result c.from_residual.ensures.1 in
    let old = c.args.line.now in
    let new = c.take_byte.new.self in
    let came = on_true (Came quote_byte old new) ((new ≡ old) × Off quote_byte old.rest) c.take_byte.result c.take_byte.ensures c.if-take_byte.true in
    rw (p.1, p.2) (λ ne. quote_came k old new came ∙ c.in_err-text_rest.ensures.leads (λ t. k (Text t)) ne)

pub returns-then-take_byte-clause-leads : goal.returns-then-take_byte-clause-leads
returns-then-take_byte-clause-leads c = λ k.
    let old = c.args.line.now in
    let new = c.take_byte.new.self in
    let came = on_true (Came quote_byte old new) ((new ≡ old) × Off quote_byte old.rest) c.take_byte.result c.take_byte.ensures c.if-take_byte.true in
    quote_came k old new came ∙ c.in_ok-text_rest.ensures.leads (λ t. k (Text t))
