-- The file stands at the end, and the others where they stood.
use Rattle.std.proofs.Common.{◌≡◌, length, ◌∙◌, ap, arith}
use Rattle.std.proofs.lemmas.Grind.{common_steps}
use Rattle.sg_store.specs.Spans.{Filed, bytes_in, span_at, span_bytes}
use Rattle.sg_store.specs.Inside.Places.{spans_of}
use Rattle.sg_store.proofs.Moving.{moves}
use Rattle.sg_store.proofs.Spots.{bytes_front}
use Rattle.sg_store.proofs.files.Files.move_to_end.Goals as goal

pub returns-in_err-add_copy-clause-files : goal.returns-in_err-add_copy-clause-files
returns-in_err-add_copy-clause-files c = λ k.
    let f = c.self.inside in
    let grew = c.in_err-add_copy.ensures.kept in
    ap (λ b. span_bytes b (span_at (spans_of f.places.entries) k)) grew.1 ∙ bytes_front f.buffer.items grew.0 (spans_of f.places.entries) k c.self.invariant
    ∙ ap (λ g. bytes_in g k) c.self.view_is

pub returns : goal.returns
returns c =
    let end : c.len-from.result ≡ length c.self.inside.buffer.items = grind (arith, common_steps, c.len-from.ensures) in
    let old : Filed = record { buffer = c.self.inside.buffer.items; spans = spans_of c.self.inside.places.entries } in
    let new : Filed = record { buffer = c.add_copy.new.buffer.items; spans = spans_of c.set_place.new.places.entries } in
    let m = moves old c.args.self.now new c.args.key.now c.as_slice.result.now c.args.place c.len-from.result c.args.room c.self.view_is c.self.invariant c.requires.there c.as_slice.ensures
    c.set_place.ensures c.in_ok-add_copy.ensures.kept c.in_ok-add_copy.ensures.copied end c.requires.twice c.requires.enough in
    record {
      files = m.files;
      room = m.room;
      rooms = m.rooms;
      twice = m.twice;
      others = m.others;
    }
