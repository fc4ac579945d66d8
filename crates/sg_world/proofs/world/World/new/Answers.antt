-- A new world keeps what worlds keep.
use Rattle.std.proofs.Common.{sym, ◌∙◌, ap, subst, arith, length}
use Rattle.sg_facts.specs.Tables.{AreTables}
use Rattle.sg_replay.specs.sg_hist.Recovered.{AreInBoots}
use Rattle.sg_world_laws.specs.sg_recovery_laws.Objects.Serving.{IsService}
use Rattle.sg_world_laws.specs.Setting.{IsSetting}
use Rattle.sg_world.specs.Worlded.{Rooms, setting_of, view_of}
use Rattle.sg_world.proofs.Starting.{IsNewEngine, as_many, is_setting, new_counted, new_is_world_of, new_points}
use Rattle.sg_world.proofs.Ends.{ends_new}
use Rattle.sg_world.proofs.world.World.new.Goals as goal

pub invariant_of-result : goal.invariant_of-result
invariant_of-result g c =
    let e = c.in_ok-new.field-0 in
    let s = g.met.S.Service in
    let made = c.in_ok-new.ensures in
    let law : IsService g.S.Service.facts g.S.Service.ask g.S.Service.sound
    = record { keeps = s.answers_and_keeps; alike = s.answers_alike; goes = s.walk_goes_on; blocked = s.blocked_stays; shape = s.shape_allows; counts = s.counts_slowly } in
    let tables : AreTables e.tables.iface e.tables.walks = subst (λ t. AreTables t.iface t.walks) (sym (made.tables ∙ sym c.tables.view_is)) c.tables.invariant in
    let set : IsSetting (setting_of g.S.Service.ask g.S.Service.sound g.S.Service.parts e.tables)
    = is_setting g.S.Service.facts g.S.Service.ask g.S.Service.sound g.S.Service.parts e.tables law (ap (λ t. t.iface.facts) made.tables ∙ c.requires.service) tables in
    let new : IsNewEngine e
    = record { running = made.running; run = made.run; files = made.files; rows = made.rows; given = made.given; names = made.names; present = made.present } in
    let rooms : Rooms = record { entries = c.new-3.result.room; withdrawals = c.new-4.result.room; marks = c.reserve.new.self.room } in (
      record {
        world = new_is_world_of (setting_of g.S.Service.ask g.S.Service.sound g.S.Service.parts e.tables) set e new c.args.clients c.requires.few rooms
            (let room = c.in_ok-reserve.ensures.ok in let from = c.from.ensures in omega (arith, room, from))
            c.new-3.result.items c.in_ok-seats.seats c.new-4.result.items c.reserve.new.self.items c.new-3.ensures c.in_ok-seats.ensures c.new-4.ensures (c.reserve.ensures.items ∙ c.new-marks.ensures);
        points = new_points g.T.Stops.test _ _ _ _ made.run c.requires.unasked c.requires.unstruck (g.met.T.Stops.starts _);
        clients = (let made = c.in_ok-new.ensures.clients in let seats = ap length c.in_ok-seats.ensures ∙ as_many c.args.clients in omega (arith, made, seats));
        service = ap (λ t. t.iface.facts) made.tables ∙ c.requires.service;
      },
      new_counted (setting_of g.S.Service.ask g.S.Service.sound g.S.Service.parts e.tables) e c.new-3.result.items c.in_ok-seats.seats c.new-4.result.items c.reserve.new.self.items made.run,
      ends_new (setting_of g.S.Service.ask g.S.Service.sound g.S.Service.parts e.tables) c.args.clients (view_of e c.new-3.result.items c.in_ok-seats.seats c.new-4.result.items c.reserve.new.self.items 0 0) c.new-3.ensures (ap (λ r. r.boots) made.run) c.new-4.ensures c.in_ok-seats.ensures,
      subst (AreInBoots e.tables.iface.facts e.cell.run 0) (sym c.new-3.ensures) tt,
    )
