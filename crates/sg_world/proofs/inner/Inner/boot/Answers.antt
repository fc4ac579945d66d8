-- The parts stay in order where the service is booted afresh.
use Rattle.std.proofs.lemmas.List.{length-map}
use Rattle.std.proofs.Common.{length, true, ◌≤◌, ap, sym, subst, ◌∙◌}
use Rattle.sg_facts.specs.Trace.{Run}
use Rattle.sg_replay.specs.sg_hist.Recovered.{struck_in}
use Rattle.sg_replay.specs.sg_hist.Growing.{booted}
use Rattle.sg_clients.specs.WorldView.{WorldView, woken_seat}
use Rattle.sg_world.specs.Inners.{rooms_in, view_in}
use Rattle.sg_world.specs.Worlded.{IsWorld, Rooms, setting_of, view_of}
use Rattle.sg_world.proofs.Points.{stops_booted}
use Rattle.sg_world.proofs.Rebooting.{ShowsBoot, booted_on}
use Rattle.sg_world.proofs.Reserving.{ShowsSame, reserved}
use Rattle.sg_world.proofs.inner.Inner.boot.Goals as goal

pub returns-clause-order : goal.returns-clause-order
returns-clause-order g c =
    let x = c.args.self.now in
    let e = x.engine in
    let room = c.reserve.new.self in
    let new = c.boot.new.self in
    let z = setting_of g.S.Service.ask g.S.Service.sound g.S.Service.parts e.tables in
    let w : WorldView = view_in x in
    let rooms : Rooms = rooms_in x in
    let same : ShowsSame e room = record { running = c.reserve.ensures.running; run = c.reserve.ensures.run; rows = c.reserve.ensures.rows; given = c.reserve.ensures.given; names = c.reserve.ensures.names; files = c.reserve.ensures.files; present = c.reserve.ensures.present } in
    let shows : ShowsBoot room new = record { running = c.boot.ensures.running; run = c.boot.ensures.run; names = c.boot.ensures.names; present = c.boot.ensures.present; stored = c.boot.ensures.stored; tracked = c.boot.ensures.tracked } in
    record {
      world = subst (λ t. IsWorld (setting_of g.S.Service.ask g.S.Service.sound g.S.Service.parts t) new (view_of new x.history.items c.wake_all.new.self x.withdrawn.items x.marks.items x.events x.refused) rooms) (sym (c.boot.ensures.tables ∙ c.reserve.ensures.tables))
          (booted_on z room w rooms (reserved z e room w rooms same c.requires.order.world) c.reserve.ensures.run c.requires.failed new shows c.wake_all.new.self c.wake_all.ensures);
      points = record {
        asked_so = ap (λ r. r.points) (c.boot.ensures.run ∙ ap (λ (r : Run). record r { boots = booted r.boots }) c.reserve.ensures.run) ∙ c.requires.order.points.asked_so;
        struck_so = ap struck_in (c.boot.ensures.run ∙ ap (λ (r : Run). record r { boots = booted r.boots }) c.reserve.ensures.run) ∙ stops_booted w.run.boots ∙ c.requires.order.points.struck_so;
        tested = c.requires.order.points.tested;
      };
      clients = subst (λ s. length c.wake_all.new.self ≤ s.clients) (sym c.boot.ensures.stored)
          (subst (λ n. length c.wake_all.new.self ≤ n) (sym c.reserve.ensures.clients)
          (subst (λ l. length l ≤ x.engine.stored.clients) (sym c.wake_all.ensures) (subst (λ n. n ≤ x.engine.stored.clients) (sym (length-map x.clients (woken_seat (λ call. true)))) c.requires.order.clients)));
      service = ap (λ t. t.iface.facts) (c.boot.ensures.tables ∙ c.reserve.ensures.tables) ∙ c.requires.order.service;
    }
