-- A client that waits may be let pass.
use Rattle.std.proofs.Common.{◌≡◌, length, sym, ◌∙◌, ap, rules, arith, vec_len}
use Rattle.sg_known.specs.Surveys.{subject_of}
use Rattle.sg_safe.specs.Reasons.{fails_in, waits_in}
use Rattle.sg_safe.proofs.Plainly.{few_greatest}
use Rattle.sg_safe.proofs.Reasoning.{bare_first, waits_bare}
use Rattle.sg_safe.proofs.check.unsafe_by.Goals as goal

pub first_overtaken-requires-clause-few : goal.first_overtaken-requires-clause-few
first_overtaken-requires-clause-few c =
    let few = few_greatest (subject_of c.args.survey.now) c.requires.plain in
    let most = ap length c.requires.survey.most in
    let own : vec_len c.args.survey.now.greatest ≡ length c.args.survey.now.greatest.items = search rules in
    omega (arith, few, most, own)

pub returns-in-Some : goal.returns-in-Some
returns-in-Some c =
    let d = subject_of c.args.survey.now in
    let here = sym c.in_ok-reason.ensures ∙ c.in-Some.is in
    bare_first d (waits_in d) (fails_in d) c.in-Some.reason here (waits_bare d c.in-Some.reason here)
