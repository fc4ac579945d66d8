-- A world keeps what it keeps after a step.
use Rattle.std.proofs.Common.{ap, refl, subst, ◌≤◌, sym, ◌∙◌, ◌≡◌, length}
use Rattle.std.specs.Prelude.{OnErr}
use Rattle.sg_facts.specs.Tables.{Compiled}
use Rattle.sg_clients.specs.WorldView.{WorldView, happened, seat_of}
use Rattle.sg_world.proofs.Events.{any_length, err_counted, err_wants, event_on, ok_answers, ok_counted}
use Rattle.sg_world.specs.Inners.{rooms_in, view_in}
use Rattle.sg_world.specs.Steps.{LackedMemory}
use Rattle.sg_world.specs.Worlded.{CountsAll, Worlded, setting_of}
use Rattle.sg_world_laws.proofs.Moves.{its_seat}
use Rattle.sg_world_laws.proofs.Turns.{seat_there}
use Rattle.sg_world.specs.Engines.Stubs.{stub_of}
use Rattle.sg_world.proofs.Ends.{ends_err, ends_ok, ends_same}
use Rattle.sg_world.proofs.InBoots.{err_in_boots, ok_in_boots}
use Rattle.sg_world_laws.specs.Ending.{IsEnding}
use Rattle.sg_world_laws.specs.Keeping.{KeepsPromise}
use Rattle.sg_replay.specs.sg_hist.Recovered.{AreInBoots}
use Rattle.sg_world.proofs.world.World.step.Goals as goal

pub invariant_of-self : goal.invariant_of-self
invariant_of-self g c =
    let x = c.self.inside.inner in
    let mid = c.step-did.new.self in
    let z = setting_of g.S.Service.ask g.S.Service.sound g.S.Service.parts x.engine.tables in
    let w : WorldView = view_in x in
    let order = c.step-did.ensures.order in
    let tables : mid.engine.tables ≡ x.engine.tables = c.step-did.ensures.rest.tables in (
      record {
        world = event_on (setting_of g.S.Service.ask g.S.Service.sound g.S.Service.parts mid.engine.tables) mid.engine (view_in mid) (rooms_in mid) order.world c.saturating_add-self-inside.result c.saturating_add-self-inside-then-is_err.result;
        points = record { asked_so = order.points.asked_so; struck_so = order.points.struck_so; tested = order.points.tested };
        clients = order.clients;
        service = order.service;
      },
      subst (λ (t : Compiled). CountsAll (setting_of g.S.Service.ask g.S.Service.sound g.S.Service.parts t) (record (view_in mid) { events = c.saturating_add-self-inside.result; refused = c.saturating_add-self-inside-then-is_err.result })) (sym tables)
          (subst (λ n. CountsAll z (record (view_in mid) { refused = n })) (sym c.saturating_add-self-inside-then-is_err.ensures)
          (err_counted z w c.args.client c.self.invariant.0.world.keeps.cell c.self.invariant.1 (view_in mid) c.step-did.result (sym c.is_err.ensures.value ∙ c.if-is_err.true) c.step-did.ensures.err)),
      subst (λ (t : Compiled). IsEnding (setting_of g.S.Service.ask g.S.Service.sound g.S.Service.parts t) (record (view_in mid) { events = c.saturating_add-self-inside.result; refused = c.saturating_add-self-inside-then-is_err.result })) (sym tables)
          (ends_same z (view_in mid) (record (view_in mid) { events = c.saturating_add-self-inside.result; refused = c.saturating_add-self-inside-then-is_err.result }) refl refl refl refl
          (ends_err z w c.args.client c.requires.client.0 (subst (λ (y : Worlded). c.args.client ≤ length y.view.seats) (sym c.self.view_is) c.requires.client.1) (stub_of x.engine) c.self.invariant.0.world.set c.self.invariant.0.world.keeps c.self.invariant.2 (view_in mid) c.step-did.result (sym c.is_err.ensures.value ∙ c.if-is_err.true) c.step-did.ensures.err)),
      subst (λ (t : Compiled). AreInBoots t.iface.facts mid.engine.cell.run 0 mid.history.items) (sym tables)
          (err_in_boots z c.self.invariant.0.world.set w c.args.client c.requires.client.0 (subst (λ (y : Worlded). c.args.client ≤ length y.view.seats) (sym c.self.view_is) c.requires.client.1) (stub_of x.engine) c.self.invariant.0.world.keeps c.self.invariant.1 c.self.invariant.3 (view_in mid) c.step-did.result (sym c.is_err.ensures.value ∙ c.if-is_err.true) c.step-did.ensures.err),
    )

pub invariant_of-self-else-is_err : goal.invariant_of-self-else-is_err
invariant_of-self-else-is_err g c =
    let x = c.self.inside.inner in
    let mid = c.step-did.new.self in
    let z = setting_of g.S.Service.ask g.S.Service.sound g.S.Service.parts x.engine.tables in
    let w : WorldView = view_in x in
    let order = c.step-did.ensures.order in
    let tables : mid.engine.tables ≡ x.engine.tables = c.step-did.ensures.rest.tables in (
      record {
        world = event_on (setting_of g.S.Service.ask g.S.Service.sound g.S.Service.parts mid.engine.tables) mid.engine (view_in mid) (rooms_in mid) order.world c.saturating_add-self-inside.result mid.refused;
        points = record { asked_so = order.points.asked_so; struck_so = order.points.struck_so; tested = order.points.tested };
        clients = order.clients;
        service = order.service;
      },
      subst (λ (t : Compiled). CountsAll (setting_of g.S.Service.ask g.S.Service.sound g.S.Service.parts t) (record (view_in mid) { events = c.saturating_add-self-inside.result; refused = mid.refused })) (sym tables)
          (ok_counted z w c.args.client c.self.invariant.0.world.keeps.cell c.self.invariant.1 (view_in mid) c.step-did.result (sym c.is_err.ensures.value ∙ c.if-is_err.false) c.step-did.ensures.did),
      subst (λ (t : Compiled). IsEnding (setting_of g.S.Service.ask g.S.Service.sound g.S.Service.parts t) (record (view_in mid) { events = c.saturating_add-self-inside.result; refused = mid.refused })) (sym tables)
          (ends_same z (view_in mid) (record (view_in mid) { events = c.saturating_add-self-inside.result; refused = mid.refused }) refl refl refl refl
          (ends_ok z w c.args.client c.requires.client.0 (subst (λ (y : Worlded). c.args.client ≤ length y.view.seats) (sym c.self.view_is) c.requires.client.1) (stub_of x.engine) c.self.invariant.0.world.set c.self.invariant.0.world.keeps c.self.invariant.2 (view_in mid) c.step-did.result (sym c.is_err.ensures.value ∙ c.if-is_err.false) c.step-did.ensures.did)),
      subst (λ (t : Compiled). AreInBoots t.iface.facts mid.engine.cell.run 0 mid.history.items) (sym tables)
          (ok_in_boots z c.self.invariant.0.world.set w c.args.client c.requires.client.0 (subst (λ (y : Worlded). c.args.client ≤ length y.view.seats) (sym c.self.view_is) c.requires.client.1) (stub_of x.engine) c.self.invariant.0.world.keeps c.self.invariant.1 c.self.invariant.3 (view_in mid) (stub_of mid.engine)
          (subst (λ (t : Compiled). KeepsPromise (setting_of g.S.Service.ask g.S.Service.sound g.S.Service.parts t) (view_in mid) (stub_of mid.engine)) tables order.world.keeps)
          c.step-did.result (sym c.is_err.ensures.value ∙ c.if-is_err.false) c.step-did.ensures.did),
    )

pub returns-then-is_err-clause-err : goal.returns-then-is_err-clause-err
returns-then-is_err-clause-err g c =
    let x = c.self.inside.inner in
    let mid = c.step-did.new.self in
    let z = setting_of g.S.Service.ask g.S.Service.sound g.S.Service.parts x.engine.tables in
    let w : WorldView = view_in x in
    subst (λ (y : Worlded). OnErr c.step-did.result (LackedMemory (setting_of g.S.Service.ask g.S.Service.sound g.S.Service.parts y.tables) y.view c.args.client
    (record (view_in mid) { events = c.saturating_add-self-inside.result; refused = c.saturating_add-self-inside-then-is_err.result }))) c.self.view_is
    (subst (λ n. OnErr c.step-did.result (LackedMemory z w c.args.client (record (view_in mid) { events = n; refused = c.saturating_add-self-inside-then-is_err.result }))) (sym c.saturating_add-self-inside.ensures)
    (subst (λ n. OnErr c.step-did.result (LackedMemory z w c.args.client (happened (record (view_in mid) { refused = n })))) (sym c.saturating_add-self-inside-then-is_err.ensures)
    (err_wants z w c.args.client (view_in mid) c.step-did.result (sym c.is_err.ensures.value ∙ c.if-is_err.true) c.step-did.ensures.err)))

pub returns-else-is_err-clause-answers : goal.returns-else-is_err-clause-answers
returns-else-is_err-clause-answers g c =
    let x = c.self.inside.inner in
    let mid = c.step-did.new.self in
    let z = setting_of g.S.Service.ask g.S.Service.sound g.S.Service.parts x.engine.tables in
    let w : WorldView = view_in x in
    let last = subst (λ (y : Worlded). c.args.client ≤ length y.view.seats) (sym c.self.view_is) c.requires.client.1 in
    ok_answers z w c.args.client
    (its_seat z w (stub_of x.engine) c.self.invariant.0.world.keeps c.args.client (seat_of w c.args.client) (seat_there w c.args.client c.requires.client.0 last) c.requires.client.0 (seat_of w c.args.client) w.withdrawn w.marks w.events w.refused)
    (view_in mid) c.step-did.result c.step-did.ensures.did

pub returns-then-is_err-clause-clients : goal.returns-then-is_err-clause-clients
returns-then-is_err-clause-clients g c =
    let x = c.self.inside.inner in
    let z = setting_of g.S.Service.ask g.S.Service.sound g.S.Service.parts x.engine.tables in
    any_length z (view_in x) c.args.client (view_in c.step-did.new.self) c.step-did.result c.step-did.ensures.did c.step-did.ensures.err ∙ ap (λ (y : Worlded). length y.view.seats) c.self.view_is

pub returns-else-is_err-clause-clients : goal.returns-else-is_err-clause-clients
returns-else-is_err-clause-clients g c =
    let x = c.self.inside.inner in
    let z = setting_of g.S.Service.ask g.S.Service.sound g.S.Service.parts x.engine.tables in
    any_length z (view_in x) c.args.client (view_in c.step-did.new.self) c.step-did.result c.step-did.ensures.did c.step-did.ensures.err ∙ ap (λ (y : Worlded). length y.view.seats) c.self.view_is
