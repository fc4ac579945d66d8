-- The bytes between the quotes, and then the last quote.
use Rattle.std.proofs.Common.{◌∙◌, ap, sym}
use Rattle.std.specs.List.{prefix_len}
use Rattle.std.proofs.lemmas.Result.{err_from_is_err_and}
use Rattle.sg_facts.specs.sg_base.Text.{is_text_byte}
use Rattle.sg_entries.specs.Inside.Forms.{quote_byte}
use Rattle.sg_entries.specs.Inside.Ahead.{front_of}
use Rattle.sg_entries.specs.Inside.States.{byte}
use Rattle.sg_entries.specs.Inside.Reads.{read}
use Rattle.sg_entries.proofs.ByByte.{text_came}
use Rattle.sg_entries.proofs.pieces.text_rest.Goals as goal

pub returns-in_err-byte-clause-leads : goal.returns-in_err-byte-clause-leads
returns-in_err-byte-clause-leads c = λ k.
    let p = err_from_is_err_and c.from_residual.result c.from_residual.ensures.1 in
    let old = c.args.line.now in
    let n = c.text_len-len.result in
    rw (p.1, p.2) (λ ne.
    text_came k n old (c.text_len-len.ensures.value ∙ ap (prefix_len is_text_byte) c.rest.ensures)
    ∙ ap (read (byte quote_byte (k (front_of n old)))) (sym c.take-text.ensures.left)
    ∙ c.in_err-byte.ensures.leads (k (front_of n old)) ne)
