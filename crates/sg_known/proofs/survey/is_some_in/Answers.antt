-- The states of each field are listed.
use Rattle.std.proofs.Common.{◌≡◌, None, Some, sym, ◌∙◌, ap}
use Rattle.std.specs.Prelude.{slice_get}
use Rattle.std.specs.Option.{option_copied}
use Rattle.sg_described.specs.NeverZero.{is_listed, never_zero}
use Rattle.sg_known.specs.Surveys.{subject_of}
use Rattle.sg_known.proofs.Listing.{listed_at}
use Rattle.sg_known.proofs.survey.is_some_in.Goals as goal

pub unreachable-requires : goal.unreachable-requires
unreachable-requires c =
    let facts = (subject_of c.args.survey.now).facts in
    let there = ap (λ l. slice_get l c.args.field) c.requires.survey.states ∙ listed_at facts facts.fields c.args.field c.requires.field in
    let place = ap (slice_get c.args.survey.now.never_zero) c.from.ensures in
    let none : None ≡ Some (never_zero facts c.args.field) = sym (ap option_copied c.in-None.is) ∙ c.get.ensures ∙ place ∙ there in
    cc none

pub returns : goal.returns
returns c =
    let facts = (subject_of c.args.survey.now).facts in
    let there = ap (λ l. slice_get l c.args.field) c.requires.survey.states ∙ listed_at facts facts.fields c.args.field c.requires.field in
    let place = ap (slice_get c.args.survey.now.never_zero) c.from.ensures in
    let some : Some c.in-Some.states.now ≡ Some (never_zero facts c.args.field) = sym (ap option_copied c.in-Some.is) ∙ c.get.ensures ∙ place ∙ there in
    let same : c.in-Some.states.now ≡ never_zero facts c.args.field = cc some in
    c.has_state.ensures ∙ ap (λ l. is_listed l c.args.state) (c.as_slice.ensures ∙ same)
