-- The patch stands in its file, and the others where they stood.
use Rattle.sg_store.specs.Spans.{Filed}
use Rattle.sg_store.specs.Inside.Places.{spans_of}
use Rattle.sg_store.proofs.Moving.{writes}
use Rattle.sg_store.proofs.files.Files.write.Goals as goal

pub invariant_of-self : goal.invariant_of-self
invariant_of-self c =
    let old : Filed = record { buffer = c.self.inside.buffer.items; spans = spans_of c.self.inside.places.entries } in
    let new : Filed = record { buffer = c.write_at.new.buffer.items; spans = spans_of c.set_place.new.places.entries } in
    let w = writes old c.args.self.now new c.args.patch.now c.as_slice-key.result.now c.in-Some.place c.as_slice-bytes.result.now c.max.result c.self.view_is c.self.invariant c.requires
    c.as_slice-key.ensures c.as_slice-bytes.ensures c.in-Some.ensures c.set_place.ensures c.write_at.ensures c.max.ensures in
    w.spans

pub returns-clause-files : goal.returns-clause-files
returns-clause-files c =
    let old : Filed = record { buffer = c.self.inside.buffer.items; spans = spans_of c.self.inside.places.entries } in
    let new : Filed = record { buffer = c.write_at.new.buffer.items; spans = spans_of c.set_place.new.places.entries } in
    let w = writes old c.args.self.now new c.args.patch.now c.as_slice-key.result.now c.in-Some.place c.as_slice-bytes.result.now c.max.result c.self.view_is c.self.invariant c.requires
    c.as_slice-key.ensures c.as_slice-bytes.ensures c.in-Some.ensures c.set_place.ensures c.write_at.ensures c.max.ensures in
    w.files

pub returns-clause-stands : goal.returns-clause-stands
returns-clause-stands c =
    let old : Filed = record { buffer = c.self.inside.buffer.items; spans = spans_of c.self.inside.places.entries } in
    let new : Filed = record { buffer = c.write_at.new.buffer.items; spans = spans_of c.set_place.new.places.entries } in
    let w = writes old c.args.self.now new c.args.patch.now c.as_slice-key.result.now c.in-Some.place c.as_slice-bytes.result.now c.max.result c.self.view_is c.self.invariant c.requires
    c.as_slice-key.ensures c.as_slice-bytes.ensures c.in-Some.ensures c.set_place.ensures c.write_at.ensures c.max.ensures in
    w.stands
