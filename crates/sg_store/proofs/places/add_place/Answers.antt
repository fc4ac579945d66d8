-- The map has the new entry.
use Rattle.std.proofs.Common.{cond, Some, ◌∙◌, ap}
use Rattle.std.specs.Str.{bytes_eq}
use Rattle.sg_store.specs.Spans.{span_at}
use Rattle.sg_store.specs.Inside.Places.{span_of, spans_of}
use Rattle.sg_store.proofs.Placing.{span_added}
use Rattle.sg_store.proofs.places.add_place.Goals as goal

pub returns-clause-ok : goal.returns-clause-ok
returns-clause-ok c = λ k.
    let old = c.args.places.now.entries in
    ap (λ entries. span_at (spans_of entries) k) c.in_ok-insert.ensures.entries ∙ span_added old c.in_ok-from_slice.field-0 c.args.place k
    ∙ ap (λ key. cond (bytes_eq k key) (Some (span_of key c.args.place)) (span_at (spans_of old) k)) c.in_ok-from_slice.ensures.items
