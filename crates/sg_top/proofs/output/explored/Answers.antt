-- A script that is ready is played with other stops.
use Rattle.std.proofs.Common.{inl, inr}
use Rattle.sg_top.proofs.Running.{explored_output, may_play, refused_line}
use Rattle.sg_top.proofs.output.explored.Goals as goal

pub explore_served-requires-clause-may : goal.explore_served-requires-clause-may
explore_served-requires-clause-may g c = λ lifetimes longer. may_play c.args.bytes.now c.in-Ready.field-0.served c.in-Ready.field-0.accepted c.in-Ready.field-0.script c.in_ok-served.field-0 c.in-Ready.is c.in_ok-served.ensures

pub returns-in_ok-found-in-Ready-clause-found : goal.returns-in_ok-found-in-Ready-clause-found
returns-in_ok-found-in-Ready-clause-found g c =
    inl (explored_output c.args.bytes.now c.in-Ready.field-0.served c.in-Ready.field-0.accepted c.in-Ready.field-0.script c.in_ok-served.field-0 c.in-Ready.is c.in_ok-served.ensures
    c.args.most c.in_ok-found-in-Ready.found c.output_finding.result.status c.output_finding.result.text c.in_ok-found-in-Ready.ensures c.output_finding.ensures.status
    c.output_finding.ensures.text)

pub returns-in-Refused-clause-found : goal.returns-in-Refused-clause-found
returns-in-Refused-clause-found g c =
    inr (c.refusing.ensures.status, refused_line c.args.bytes.now c.in-Refused.line c.refusing.result.text c.in_ok-served.field-0 c.in-Refused.is c.refusing.ensures.line c.in_ok-served.ensures)
