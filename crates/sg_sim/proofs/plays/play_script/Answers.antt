-- Each turn of the play is that of the play without stops.
use Rattle.std.proofs.Common.{subst}
use Rattle.std.specs.Result.{IfOk}
use Rattle.sg_facts.specs.Tables.{Compiled}
use Rattle.sg_facts.specs.Trace.{run_of}
use Rattle.sg_play.specs.sg_script.declared.script.Script.{Script}
use Rattle.sg_sim.specs.Played.{FollowsSchedule}
use Rattle.sg_sim.proofs.plays.play_script.Goals as goal

pub returns-clause-schedule : goal.returns-clause-schedule
returns-clause-schedule g c =
    subst (λ (t : Compiled). IfOk c.finish.result (λ ended. FollowsSchedule t.iface g.S.Service.ask c.args.script (run_of ended.trace) ended.history.items)) c.in_ok-play.ensures.tables
    (subst (λ (s : Script). IfOk c.finish.result (λ ended. FollowsSchedule c.in_ok-play.play.tables.iface g.S.Service.ask s (run_of ended.trace) ended.history.items)) c.in_ok-play.ensures.script
    (c.finish.ensures.schedule c.in_ok-play.ensures.in_order))
