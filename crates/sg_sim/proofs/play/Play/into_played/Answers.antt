-- The history and the trace are the world's own.
use Rattle.std.proofs.Common.{ap, sym, subst}
use Rattle.sg_play.specs.sg_hist.declared.ended.Ended.{Ended}
use Rattle.sg_sim.specs.Played.{IsOfWorld}
use Rattle.sg_sim.specs.Playing.{Playing}
use Rattle.sg_sim.proofs.play.Play.into_played.Goals as goal

pub returns-clause-world : goal.returns-clause-world
returns-clause-world g c =
    let x = c.self.inside in
    subst (λ (q : Playing). IsOfWorld q.view c.new.result) c.self.view_is
    (subst (IsOfWorld x.world.view) (sym c.new.ensures) (c.into_run-history.ensures.history, c.into_run-history.ensures.run))

pub returns-clause-played : goal.returns-clause-played
returns-clause-played g c = c.tell_end.ensures.played c.new.result (returns-clause-world g c) (ap (λ (e : Ended). e.ends) c.new.ensures)

pub returns-clause-schedule : goal.returns-clause-schedule
returns-clause-schedule g c = c.tell_end.ensures.schedule c.new.result (returns-clause-world g c)
