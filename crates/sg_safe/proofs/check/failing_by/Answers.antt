-- The first call may fail.
use Rattle.std.proofs.Common.{map, sym, ◌∙◌, ap}
use Rattle.sg_known.specs.Surveys.{subject_of}
use Rattle.sg_safe.specs.Inside.Routes.{place_in}
use Rattle.sg_safe.proofs.Reasoning.{found_begin, found_later}
use Rattle.sg_safe.proofs.check.failing_by.Goals as goal

pub returns-in-Some : goal.returns-in-Some
returns-in-Some c = found_begin (subject_of c.args.survey.now) c.new.result c.in-Some.call c.new.ensures (sym c.in_ok-call.ensures ∙ c.in-Some.is)

pub returns-in_ok-next_failure-in-None : goal.returns-in_ok-next_failure-in-None
returns-in_ok-next_failure-in-None c =
    let d = subject_of c.args.survey.now in
    found_later d (map (place_in d) c.as_slice.result.now) c.in_ok-next_failure-in-None.field-0
    (ap (map (place_in d)) c.as_slice.ensures ∙ c.in_ok-reached-in-None.ensures.spots) (sym c.in_ok-call.ensures ∙ c.in-None.is) c.in_ok-next_failure-in-None.ensures
