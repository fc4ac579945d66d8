-- Each field is up to its greatest number, and then the tests tell more.
use Rattle.std.proofs.Common.{◌≡◌, length, sym, ◌∙◌, ap, rules, vec_len}
use Rattle.std.proofs.lemmas.List.{length-map}
use Rattle.sg_known.specs.sg_facts.Facts.{fun_of_shape}
use Rattle.sg_known.specs.sg_described.Known.{Known, after_tests, between}
use Rattle.sg_known.specs.sg_described.Meaning.{last_word}
use Rattle.sg_known.proofs.sg_described.Keeping.Fitting.{greatest_length}
use Rattle.sg_known.specs.Seen.{fields_in}
use Rattle.sg_known.specs.Surveys.{subject_of}
use Rattle.sg_safe.proofs.Seeing.{any_known}
use Rattle.sg_safe.proofs.waiting.seen_where.Goals as goal

pub returns-clause-known : goal.returns-clause-known
returns-clause-known c =
    let d = subject_of c.args.survey.now in
    let fields = c.in_ok-all_up_to.field-0.items in
    let funs = c.args.survey.now.description.now.shape.funs.now in
    let old : Known = record { args = λ a. between 0 last_word; state = between 0 (length funs); fields = fields_in fields } in
    let greatest_is = c.as_slice.ensures.value ∙ c.requires.most in
    let own : vec_len c.in_ok-all_up_to.field-0 ≡ length fields = search rules in
    let count : vec_len c.in_ok-all_up_to.field-0 ≡ length d.most =
    own ∙ ap length c.in_ok-all_up_to.ensures ∙ length-map c.as_slice.result.now (λ m. between 0 m) ∙ ap length greatest_is ∙ greatest_length d in
    c.narrow_all.ensures.known ∙ ap (λ n. after_tests n c.args.rule.now.tests.now old) count
    ∙ ap (after_tests (length d.most) c.args.rule.now.tests.now) (any_known d (length funs) fields c.as_slice.result.now (sym (length-map funs fun_of_shape)) c.in_ok-all_up_to.ensures greatest_is)
