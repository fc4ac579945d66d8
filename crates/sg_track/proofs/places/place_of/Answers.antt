-- The look-up by hash finds the row, or none is there.
use Rattle.sg_track.proofs.Entries.{place_tells}
use Rattle.sg_track.proofs.places.place_of.Goals as goal

pub returns : goal.returns
returns c =
    let call = c.get_index_of in
    place_tells c.args.kept.now.entries c.args.id call.result c.requires call.ensures.found call.ensures.within call.ensures.value
