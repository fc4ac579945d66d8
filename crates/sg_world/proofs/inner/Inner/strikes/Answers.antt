-- The parts stay in order where the service is asked at a point, and stops there or not.
use Rattle.std.proofs.Common.{length, true, ◌≤◌, ap, sym, subst, ◌∙◌}
use Rattle.sg_facts.specs.sg_base.Stops.{struck_after}
use Rattle.sg_replay.specs.sg_hist.Recovered.{struck_in}
use Rattle.sg_clients.specs.WorldView.{WorldView}
use Rattle.sg_world.specs.Inners.{rooms_in, view_in}
use Rattle.sg_world.specs.Worlded.{IsWorld, Rooms, setting_of, view_of}
use Rattle.sg_world.proofs.Points.{counted_on, not_stopped_up, stopped_on, stops_struck}
use Rattle.sg_world.proofs.inner.Inner.strikes.Goals as goal

pub returns-then-strikes-clause-order : goal.returns-then-strikes-clause-order
returns-then-strikes-clause-order g c =
    let x = c.args.self.now in
    let e = x.engine in
    let z = setting_of g.S.Service.ask g.S.Service.sound g.S.Service.parts e.tables in
    let w : WorldView = view_in x in
    let rooms : Rooms = rooms_in x in
    let new = c.strike.new.self in
    record {
      world = subst (λ t. IsWorld (setting_of g.S.Service.ask g.S.Service.sound g.S.Service.parts t) new (view_of new x.history.items x.clients x.withdrawn.items x.marks.items x.events x.refused) rooms) (sym c.strike.ensures.tables)
          (stopped_on z e w rooms c.requires.order.world new c.asked-asked.result c.strike.ensures.run c.strike.ensures.running c.strike.ensures.tracked c.strike.ensures.stored);
      points = record {
        asked_so = ap (λ r. r.points) c.strike.ensures.run ∙ c.asked-asked.ensures;
        struck_so = ap struck_in c.strike.ensures.run
            ∙ stops_struck w.run.boots c.asked-asked.result c.requires.order.world.keeps.cell.begun (not_stopped_up z e w rooms c.requires.order.world c.requires.up)
            ∙ ap (λ l. struck_after l c.asked-asked.result true) c.requires.order.points.struck_so
            ∙ ap (λ n. struck_after (g.T.Stops.struck x.stops) n true) c.asked-asked.ensures
            ∙ sym (c.strikes-strikes.ensures.struck ∙ ap (struck_after (g.T.Stops.struck x.stops) (g.T.Stops.asked c.strikes-strikes.new.self)) c.if-strikes.true);
        tested = c.strikes-strikes.ensures.test c.requires.order.points.tested;
      };
      clients = subst (λ s. length x.clients ≤ s.clients) (sym c.strike.ensures.stored) c.requires.order.clients;
      service = ap (λ t. t.iface.facts) c.strike.ensures.tables ∙ c.requires.order.service;
    }

pub returns-else-strikes-clause-order : goal.returns-else-strikes-clause-order
returns-else-strikes-clause-order g c =
    let x = c.args.self.now in
    let e = x.engine in
    let z = setting_of g.S.Service.ask g.S.Service.sound g.S.Service.parts e.tables in
    let w : WorldView = view_in x in
    let rooms : Rooms = rooms_in x in
    record {
      world = subst (λ y. IsWorld (setting_of g.S.Service.ask g.S.Service.sound g.S.Service.parts y.tables) y (view_of y x.history.items x.clients x.withdrawn.items x.marks.items x.events x.refused) rooms) (sym c.count.ensures)
          (counted_on z e w rooms c.requires.order.world c.asked-asked.result);
      points = record {
        asked_so = ap (λ y. y.cell.run.points) c.count.ensures ∙ c.asked-asked.ensures;
        struck_so = ap (λ y. struck_in y.cell.run) c.count.ensures ∙ c.requires.order.points.struck_so
            ∙ sym (c.strikes-strikes.ensures.struck ∙ ap (struck_after (g.T.Stops.struck x.stops) (g.T.Stops.asked c.strikes-strikes.new.self)) c.if-strikes.false);
        tested = c.strikes-strikes.ensures.test c.requires.order.points.tested;
      };
      clients = subst (λ y. length x.clients ≤ y.stored.clients) (sym c.count.ensures) c.requires.order.clients;
      service = ap (λ y. y.tables.iface.facts) c.count.ensures ∙ c.requires.order.service;
    }
