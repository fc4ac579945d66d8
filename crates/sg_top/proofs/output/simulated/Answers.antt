-- A script that is ready is played in one thread.
use Rattle.std.proofs.Common.{false}
use Rattle.sg_top.proofs.Running.{may_play, of_three, output_in_order, refused_play, was_played}
use Rattle.sg_top.proofs.output.simulated.Goals as goal

pub simulate_served-requires : goal.simulate_served-requires
simulate_served-requires c = may_play c.args.bytes.now c.in-Ready.field-0.served c.in-Ready.field-0.accepted c.in-Ready.field-0.script c.in_ok-served.field-0 c.in-Ready.is c.in_ok-served.ensures

pub reported-requires : goal.reported-requires
reported-requires c = was_played c.args.bytes.now c.in-Ready.field-0.served c.in-Ready.field-0.accepted c.in-Ready.field-0.script c.in_ok-served.field-0 c.in-Ready.is c.in_ok-served.ensures c.in_ok-played-in-Ready.played c.in_ok-played-in-Ready.ensures.0

pub returns-in_ok-played-in-Ready : goal.returns-in_ok-played-in-Ready
returns-in_ok-played-in-Ready c =
    of_three c.reported.result _ _ _ _
    (λ o text status ran.
    output_in_order c.args.bytes.now c.in-Ready.field-0.served c.in-Ready.field-0.accepted c.in-Ready.field-0.script c.in_ok-served.field-0 c.in-Ready.is c.in_ok-served.ensures
    c.args.shows c.in_ok-played-in-Ready.played o.ran o.status o.text c.in_ok-played-in-Ready.ensures ran status text)
    c.reported.ensures.text c.reported.ensures.status c.reported.ensures.ran

pub returns-in-Refused : goal.returns-in-Refused
returns-in-Refused c =
    refused_play c.args.bytes.now c.in-Refused.line c.refusing.result.text false c.args.shows c.refusing.result.ran c.refusing.result.status c.in_ok-served.field-0 c.in-Refused.is
    c.refusing.ensures.line c.refusing.ensures.ran c.refusing.ensures.status c.in_ok-served.ensures
