-- A path is looked up by its bytes.
use Rattle.std.proofs.Common.{◌∙◌, ap}
use Rattle.sg_store.specs.Inside.Places.{placed_span}
use Rattle.sg_store.proofs.Placing.{span_found}
use Rattle.sg_store.proofs.places.place_of.Goals as goal

pub returns : goal.returns
returns c = ap (placed_span c.args.key.now) (c.copied.ensures ∙ c.get.ensures.value) ∙ span_found c.args.places.now.entries c.args.key.now
