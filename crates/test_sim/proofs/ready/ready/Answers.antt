-- A script that is ready may be played, and its stops ascend.
use Rattle.std.proofs.Common.{◌∷◌, [], map, subst}
use Rattle.sg_facts.specs.Facts.{facts_of}
use Rattle.sg_input.specs.Inputs.{IsInputOf, IsReady, judged_by}
use Rattle.sg_sim.proofs.sg_plain.Flawless.Flawless.{script_playable, script_stops}
use Rattle.test_sim.proofs.ready.ready.Goals as goal

pub returns-in-Ready-clause-playable : goal.returns-in-Ready-clause-playable
returns-in-Ready-clause-playable c =
    let ready : IsReady (judged_by (map facts_of (c.shape.result ∷ []))) c.as_slice.result.now c.in-Ready.accepted c.in-Ready.script =
    subst (IsInputOf (judged_by (map facts_of (c.shape.result ∷ []))) c.as_slice.result.now) c.in-Ready.is c.in_ok-accepted.ensures.input in
    script_playable c.in-Ready.accepted ready.second c.in-Ready.script ready.reads

pub returns-in-Ready-clause-stops : goal.returns-in-Ready-clause-stops
returns-in-Ready-clause-stops c =
    let ready : IsReady (judged_by (map facts_of (c.shape.result ∷ []))) c.as_slice.result.now c.in-Ready.accepted c.in-Ready.script =
    subst (IsInputOf (judged_by (map facts_of (c.shape.result ∷ []))) c.as_slice.result.now) c.in-Ready.is c.in_ok-accepted.ensures.input in
    script_stops c.in-Ready.accepted ready.second c.in-Ready.script ready.reads
