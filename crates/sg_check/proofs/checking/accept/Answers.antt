-- What is clear of all kinds fits.
use Rattle.std.proofs.Common.{map, rules, sym, subst}
use Rattle.sg_check_statements.specs.sg_facts.Facts.{facts_of}
use Rattle.sg_check_statements.specs.Faults.{IsAccepted}
use Rattle.sg_check.proofs.Stages.{candidate_accepted, candidate_fits, candidate_small}
use Rattle.sg_check.proofs.checking.accept.Goals as goal

pub walks_fit-requires-clause-few : goal.walks_fit-requires-clause-few
walks_fit-requires-clause-few c = (candidate_small (map facts_of c.args.shapes.now) c.args.tree.now c.in_ok-candidate.candidate 10 c.in_ok-candidate.ensures).fields

pub returns-in_err-funs_reached : goal.returns-in_err-funs_reached
returns-in_err-funs_reached c =
    let told = c.in_err-funs_reached.ensures.stage (map facts_of c.args.shapes.now) c.in_ok-candidate.ensures in
    search rules

pub returns-in_err-walks_fit : goal.returns-in_err-walks_fit
returns-in_err-walks_fit c =
    let services = map facts_of c.args.shapes.now in
    let told = c.in_err-walks_fit.ensures.stage services (c.in_ok-funs_reached.ensures.stage services c.in_ok-candidate.ensures) in
    search rules

pub new-requires-clause-small : goal.new-requires-clause-small
new-requires-clause-small c =
    let services = map facts_of c.args.shapes.now in
    candidate_small services c.args.tree.now c.in_ok-candidate.candidate 12 (c.in_ok-walks_fit.ensures.stage services (c.in_ok-funs_reached.ensures.stage services c.in_ok-candidate.ensures))

pub new-requires-clause-fits : goal.new-requires-clause-fits
new-requires-clause-fits c =
    let services = map facts_of c.args.shapes.now in
    candidate_fits services c.args.tree.now c.in_ok-candidate.candidate (c.in_ok-walks_fit.ensures.stage services (c.in_ok-funs_reached.ensures.stage services c.in_ok-candidate.ensures))
    c.in_ok-funs_reached.ensures.known c.in_ok-walks_fit.ensures.known

pub returns : goal.returns
returns c =
    let services = map facts_of c.args.shapes.now in
    let candidate = c.in_ok-candidate.candidate in
    let good = c.in_ok-walks_fit.ensures.stage services (c.in_ok-funs_reached.ensures.stage services c.in_ok-candidate.ensures) in
    subst (IsAccepted services c.args.tree.now) (sym c.new.ensures)
    (candidate_accepted services c.args.tree.now candidate good
    (candidate_fits services c.args.tree.now candidate good c.in_ok-funs_reached.ensures.known c.in_ok-walks_fit.ensures.known))
