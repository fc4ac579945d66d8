-- Each field after the effect on it.
use Rattle.std.proofs.Common.{◌≡◌, ◌++◌, length, sym, ◌∙◌, ap, arith}
use Rattle.sg_known.specs.Seen.{fields_in, known_in, pairs_of}
use Rattle.sg_known.specs.Surveys.{subject_of}
use Rattle.sg_safe.specs.Inside.Seen.{bounds_left}
use Rattle.sg_safe.proofs.Seeing.{left_known}
use Rattle.sg_safe.proofs.waiting.seen_after.Goals as goal

pub returns : goal.returns
returns c =
    let effects = pairs_of c.fun.result.effects.now in
    let fields = c.as_slice.result.now in
    let most = c.as_slice-2.result.now in
    let one = c.as_slice.ensures.len in
    let two = c.as_slice-2.ensures.len in
    let count = c.requires.count in
    let same : length fields ≡ length most = omega (arith, one, two, count) in
    left_known (subject_of c.args.survey.now) c.args.fun (known_in c.args.seen.now) effects fields c.add_after.new.after.items most
    (c.in_ok-add_after.ensures ∙ ap (λ l. l ++ bounds_left effects 0 fields most) c.new-fields.ensures.items) (ap (λ f. f.effects) c.fun.ensures)
    (c.as_slice-2.ensures.value ∙ c.requires.survey.most) same (ap fields_in (sym c.as_slice.ensures.value))
