-- The file that moves had too little room, and the others stand where they stood.
use Rattle.sg_store.specs.Spans.{Filed}
use Rattle.sg_store.specs.Inside.Places.{spans_of}
use Rattle.sg_store.proofs.Moving.{other_than_small}
use Rattle.sg_store.proofs.files.Files.grow.Goals as goal

pub returns-in_err-move_to_end-in-Some-clause-stays : goal.returns-in_err-move_to_end-in-Some-clause-stays
returns-in_err-move_to_end-in-Some-clause-stays c = λ k has.
    let f : Filed = record { buffer = c.self.inside.buffer.items; spans = spans_of c.self.inside.places.entries } in
    c.move_to_end.ensures.others k (other_than_small f c.args.self.now c.args.key.now c.as_slice.result.now c.in-Some.place c.needed_room-needed.result c.self.view_is c.self.invariant c.as_slice.ensures c.in-Some.ensures
    c.needed_room-needed.ensures c.if-place-needed.true k has)

pub returns-in_ok-move_to_end-in-Some-clause-stays : goal.returns-in_ok-move_to_end-in-Some-clause-stays
returns-in_ok-move_to_end-in-Some-clause-stays c = λ k has.
    let f : Filed = record { buffer = c.self.inside.buffer.items; spans = spans_of c.self.inside.places.entries } in
    c.move_to_end.ensures.others k (other_than_small f c.args.self.now c.args.key.now c.as_slice.result.now c.in-Some.place c.needed_room-needed.result c.self.view_is c.self.invariant c.as_slice.ensures c.in-Some.ensures
    c.needed_room-needed.ensures c.if-place-needed.true k has)
