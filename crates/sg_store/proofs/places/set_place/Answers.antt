-- The map has another place at the path, which it had before.
use Rattle.std.proofs.Common.{◌≡◌, true, false, is_some, ◌∙◌, ap}
use Rattle.sg_store.specs.Spans.{span_at}
use Rattle.sg_store.specs.Inside.Places.{placed_span, spans_of}
use Rattle.sg_store.proofs.Placing.{span_found, span_moved}
use Rattle.sg_store.proofs.places.set_place.Goals as goal

pub returns : goal.returns
returns c = λ k.
    ap (λ entries. span_at (spans_of entries) k) (c.get_mut.follows.holds c.args.place).0 ∙ span_moved c.args.places.now.entries c.args.key.now c.args.place k c.requires

pub unreachable-requires : goal.unreachable-requires
unreachable-requires c =
    let gone : false ≡ true = ap (λ o. is_some (placed_span c.args.key.now o)) c.in-None.ensures.value ∙ ap is_some (span_found c.args.places.now.entries c.args.key.now) ∙ c.requires in
    cc gone
