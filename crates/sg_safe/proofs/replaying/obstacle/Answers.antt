-- Where nothing makes the call fail, where it leads to a lost field, and else.
use Rattle.std.proofs.Common.{Some}
use Rattle.std.specs.Option.{option_or}
use Rattle.sg_known.specs.sg_facts.Walks.{next_spot}
use Rattle.sg_known.specs.sg_described.Walking.{is_lost}
use Rattle.sg_known.specs.Surveys.{subject_of}
use Rattle.sg_safe.specs.Inside.Seen.{shown}
use Rattle.sg_safe.specs.Reasons.{no_client, past_most, stopping_rule}
use Rattle.sg_safe.proofs.Seeing.{found_there, lost_there, nothing_there}
use Rattle.sg_safe.proofs.replaying.obstacle.Goals as goal

pub returns-in-None : goal.returns-in-None
returns-in-None c =
    let d = subject_of c.args.survey.now in
    let s = shown d c.args.spot in
    nothing_there (is_lost d (next_spot d.facts c.args.fun s)) c.any_obstacle.result (option_or (no_client d c.args.fun s) (option_or (stopping_rule d c.args.fun s) (past_most d c.args.fun s)))
    c.any_obstacle.ensures c.in-None.is

pub returns-then-loses : goal.returns-then-loses
returns-then-loses c =
    let d = subject_of c.args.survey.now in
    let s = shown d c.args.spot in
    lost_there d c.loses.result (option_or (no_client d c.args.fun s) (option_or (stopping_rule d c.args.fun s) (past_most d c.args.fun s)))
    (shown d c.spot_after.result) (next_spot d.facts c.args.fun s) c.loses.ensures c.spot_after.ensures c.if-loses.true

pub returns-else-loses : goal.returns-else-loses
returns-else-loses c =
    let d = subject_of c.args.survey.now in
    let s = shown d c.args.spot in
    found_there d c.loses.result (Some c.in-Some.found) (option_or (no_client d c.args.fun s) (option_or (stopping_rule d c.args.fun s) (past_most d c.args.fun s)))
    (shown d c.spot_after.result) (next_spot d.facts c.args.fun s) c.loses.ensures c.spot_after.ensures c.if-loses.false c.in-Some.ensures
