-- The script with other stops is played.
use Rattle.std.proofs.Common.{subst, sym}
use Rattle.std.specs.Result.{IfOk}
use Rattle.sg_shared.specs.Runs.{IsRunInOrder}
use Rattle.sg_shared.specs.sg_sim.sg_plain.Answering.{Answering}
use Rattle.sg_shared.specs.sg_sim.sg_plain.Playing.Playable.{IsPlayable}
use Rattle.sg_shared.specs.sg_sim.sg_plain.sg_edge.Stops.{AscendsAbove}
use Rattle.sg_shared.specs.sg_sim.sg_script.declared.script.Script.{Script}
use Rattle.sg_explore.proofs.Trying.{playable_with}
use Rattle.sg_explore.proofs.plays.play_with.Goals as goal

pub simulate-requires-clause-playable : goal.simulate-requires-clause-playable
simulate-requires-clause-playable g c =
    subst (IsPlayable c.args.accepted.now) (sym c.in_ok-changed.ensures) (playable_with c.args.accepted.now c.args.script.now c.args.stops c.requires.playable)

pub simulate-requires-clause-stops : goal.simulate-requires-clause-stops
simulate-requires-clause-stops g c = subst (λ (s : Script). AscendsAbove 0 s.stops) (sym c.in_ok-changed.ensures) c.requires.stops

pub returns : goal.returns
returns g c =
    let service : Answering = record { facts = g.S.Service.facts; ask = g.S.Service.ask; parts = g.S.Service.parts } in
    subst (λ (s : Script). IfOk c.simulate.result (IsRunInOrder c.args.accepted.now service s)) c.in_ok-changed.ensures c.simulate.ensures
