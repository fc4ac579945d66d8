-- A script that is ready is played, with a thread for each client.
use Rattle.std.proofs.Common.{subst, true}
use Rattle.sg_top.specs.Answer.{report_shown}
use Rattle.sg_top.specs.Headline.{IsShown}
use Rattle.sg_top.proofs.Running.{may_play, of_three, output_in_threads, refused_play, was_played}
use Rattle.sg_top.proofs.output.output_of_threads.Goals as goal

pub share_served-requires-clause-service : goal.share_served-requires-clause-service
share_served-requires-clause-service g c = λ lifetimes longer. (may_play c.args.bytes.now c.in-Ready.field-0.served c.in-Ready.field-0.accepted c.in-Ready.field-0.script c.in_ok-served.field-0 c.in-Ready.is c.in_ok-served.ensures).of

pub share_served-requires-clause-playable : goal.share_served-requires-clause-playable
share_served-requires-clause-playable g c = λ lifetimes longer. (may_play c.args.bytes.now c.in-Ready.field-0.served c.in-Ready.field-0.accepted c.in-Ready.field-0.script c.in_ok-served.field-0 c.in-Ready.is c.in_ok-served.ensures).playable

pub share_served-requires-clause-stops : goal.share_served-requires-clause-stops
share_served-requires-clause-stops g c = λ lifetimes longer. (may_play c.args.bytes.now c.in-Ready.field-0.served c.in-Ready.field-0.accepted c.in-Ready.field-0.script c.in_ok-served.field-0 c.in-Ready.is c.in_ok-served.ensures).stops

pub reported-requires : goal.reported-requires
reported-requires g c = was_played c.args.bytes.now c.in-Ready.field-0.served c.in-Ready.field-0.accepted c.in-Ready.field-0.script c.in_ok-served.field-0 c.in-Ready.is c.in_ok-served.ensures c.in_ok-played-in-Ready.played c.in_ok-played-in-Ready.ensures

pub returns-in_ok-played-in-Ready : goal.returns-in_ok-played-in-Ready
returns-in_ok-played-in-Ready g c =
    of_three c.reported.result _ _ _ _
    (λ o text status ran.
    output_in_threads c.args.bytes.now c.in-Ready.field-0.served c.in-Ready.field-0.accepted c.in-Ready.field-0.script c.in_ok-served.field-0 c.in-Ready.is c.in_ok-served.ensures
    (report_shown c.args.trace) c.in_ok-played-in-Ready.played o.ran o.status o.text c.in_ok-played-in-Ready.ensures ran status
    (subst (λ s. IsShown s c.in-Ready.field-0.accepted c.in_ok-played-in-Ready.played o.text) c.of_report.ensures text))
    c.reported.ensures.text c.reported.ensures.status c.reported.ensures.ran

pub returns-in-Refused : goal.returns-in-Refused
returns-in-Refused g c =
    refused_play c.args.bytes.now c.in-Refused.line c.refusing.result.text true (report_shown c.args.trace) c.refusing.result.ran c.refusing.result.status c.in_ok-served.field-0 c.in-Refused.is
    c.refusing.ensures.line c.refusing.ensures.ran c.refusing.ensures.status c.in_ok-served.ensures
