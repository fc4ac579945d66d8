-- The parts stay in order where a call reaches the service.
use Rattle.std.proofs.Common.{ap, inl, inr, subst, sym, ◌∙◌, ◌≡◌, ℕ}
use Rattle.sg_facts.specs.sg_base.Stops.{asked_after}
use Rattle.sg_facts.specs.sg_base.declared.call.Call.{Call}
use Rattle.sg_facts.specs.Facts.{Facts}
use Rattle.sg_facts.specs.Invoke.{FitsRoom, Points}
use Rattle.sg_facts.specs.Tables.{Compiled}
use Rattle.sg_facts.specs.declared.outcome.Outcome.{Outcome}
use Rattle.sg_facts.specs.declared.outcome.Outcome.TheVariants.{Replied}
use Rattle.sg_replay.specs.Serving.{ServesOne}
use Rattle.sg_clients.specs.WorldView.{WorldView, seat_in, with_points}
use Rattle.sg_world.specs.Inners.{view_in}
use Rattle.sg_world.specs.Inside.Served.{HasServed, view_with}
use Rattle.sg_world.specs.Steps.{Steps}
use Rattle.sg_world.specs.Worlded.{setting_of}
use Rattle.sg_world.proofs.Asking.{HasAsked, MayBeServed, has_served, held, held_is, may_be_served, nothing_order, nothing_shown, shown_before, stops_line_now, stops_order, unserved_order, waits_line_now, waits_order}
use Rattle.sg_world.proofs.inner.Inner.serve.Given
use Rattle.sg_world.proofs.inner.Inner.serve.Goals.{After-reserve, After-serve, In-Replied}
use Rattle.sg_world.proofs.inner.Inner.serve.Goals as goal

-- the engine took its memory
module _ (g : Given.Over) (c : After-reserve g) where
  may : MayBeServed g.S.Service.facts g.S.Service.ask g.S.Service.sound g.S.Service.parts g.T.Stops.test g.T.Stops.asked g.T.Stops.struck g.T.Stops.plan c.args.self.now c.args.client c.args.file.now c.reserve.new.self
  may = record {
    order = c.requires.order;
    first = c.requires.client.0;
    last = c.requires.client.1;
    let_in = c.requires.let_in;
    up = c.requires.up;
    file_is = c.requires.file;
    whole = c.requires.whole;
    same = record {
      running = c.reserve.ensures.running;
      run = c.reserve.ensures.run;
      rows = c.reserve.ensures.rows;
      given = c.reserve.ensures.given;
      names = c.reserve.ensures.names;
      files = c.reserve.ensures.files;
      present = c.reserve.ensures.present;
    };
    tables = c.reserve.ensures.tables;
    places = c.reserve.ensures.clients;
  }

-- and asked the call
module _ (g : Given.Over) (c : After-serve g) where
  ready : MayBeServed g.S.Service.facts g.S.Service.ask g.S.Service.sound g.S.Service.parts g.T.Stops.test g.T.Stops.asked g.T.Stops.struck g.T.Stops.plan c.args.self.now c.args.client c.args.file.now c.reserve.new.self
  ready = may g (goal.at.After-serve g c).After-reserve

  kept : HasAsked g.T.Stops.test g.T.Stops.asked g.T.Stops.struck g.T.Stops.plan c.reserve.new.self c.args.self.now.stops c.serve.new.self c.serve.new.stops
  kept = record {
    tables_kept = c.serve.ensures.tables;
    stored_kept = c.serve.ensures.stored;
    tracked_kept = c.serve.ensures.tracked;
    present_kept = c.serve.ensures.present;
    plan_kept = c.serve.ensures.plan;
    tested = c.serve.ensures.test c.requires.order.points.tested;
  }

  abbrev start : Points
  start = record { asked = g.T.Stops.asked c.args.self.now.stops; struck = g.T.Stops.struck c.args.self.now.stops }

  abbrev later : Points
  later = record { asked = g.T.Stops.asked c.serve.new.stops; struck = g.T.Stops.struck c.serve.new.stops }

  turn : (outcome : Outcome) → c.serve.result ≡ outcome
      → ServesOne c.args.self.now.engine.tables.iface.facts g.S.Service.ask g.S.Service.parts (held ready) c.reserve.new.self (seat_in c.args.self.now.clients c.args.client).call start outcome c.serve.new.self later
  turn outcome is =
      subst (λ (f : Facts). ServesOne f g.S.Service.ask g.S.Service.parts (held ready) c.reserve.new.self (seat_in c.args.self.now.clients c.args.client).call start outcome c.serve.new.self later) (sym c.requires.order.service)
      (subst (λ (q : Call). ServesOne g.S.Service.facts g.S.Service.ask g.S.Service.parts (held ready) c.reserve.new.self q start outcome c.serve.new.self later) c.call-2.ensures
      (subst (λ (o : Outcome). ServesOne g.S.Service.facts g.S.Service.ask g.S.Service.parts (held ready) c.reserve.new.self c.call-2.result.now start o c.serve.new.self later) is (c.serve.ensures.outcome (held ready) (held_is ready))))

-- and the service replied
module _ (g : Given.Over) (c : In-Replied g) where
  abbrev stage : After-serve g
  stage = (goal.at.In-Replied g c).After-serve

  abbrev served : HasServed (setting_of g.S.Service.ask g.S.Service.sound g.S.Service.parts c.args.self.now.engine.tables) g.T.Stops.test g.T.Stops.asked g.T.Stops.struck g.T.Stops.plan
      (record c.args.self.now { engine = c.serve.new.self; stops = c.serve.new.stops }) c.args.client c.in-Replied.reply c.in-Replied.patch
  served = has_served (ready g stage) (kept g stage) c.in-Replied.reply c.in-Replied.patch c.reserve.ensures.agrees
      (subst (FitsRoom (held (ready g stage))) c.in-Replied.is (c.serve.ensures.fits (held (ready g stage)) (held_is (ready g stage))))
      c.in_ok-reserve.ensures.row_room c.in_ok-reserve.ensures.stored_room c.in_ok-reserve.ensures.file_room c.in_ok-reserve.ensures.mark (turn g stage (Replied c.in-Replied.reply c.in-Replied.patch) c.in-Replied.is)

pub returns-in_err-reserve-clause-order : goal.returns-in_err-reserve-clause-order
returns-in_err-reserve-clause-order g c = unserved_order (may g (goal.at.returns-in_err-reserve-clause-order g c).After-reserve)

pub serve-requires : goal.serve-requires
serve-requires g c = may_be_served (may g (goal.at.serve-requires g c).After-reserve) c.call-2.result.now c.call-2.ensures c.in_ok-reserve.ensures.cell_room c.in_ok-reserve.ensures.name_room

pub answer-requires-clause-served : goal.answer-requires-clause-served
answer-requires-clause-served g c =
    subst (λ (t : Compiled). HasServed (setting_of g.S.Service.ask g.S.Service.sound g.S.Service.parts t) g.T.Stops.test g.T.Stops.asked g.T.Stops.struck g.T.Stops.plan (record c.args.self.now { engine = c.serve.new.self; stops = c.serve.new.stops }) c.args.client c.in-Replied.reply c.in-Replied.patch)
    (sym (c.serve.ensures.tables ∙ c.reserve.ensures.tables)) (served g (goal.at.answer-requires-clause-served g c).In-Replied)

pub returns-in-Replied-clause-did : goal.returns-in-Replied-clause-did
returns-in-Replied-clause-did g c = λ asked was.
    let x = c.args.self.now in
    let replied = (goal.at.returns-in-Replied-clause-did g c).In-Replied in
    let shown : view_with c.reserve.new.self x ≡ view_in x = shown_before (ready g (goal.at.In-Replied g replied).After-serve) in
    subst (λ y. Steps (setting_of g.S.Service.ask g.S.Service.sound g.S.Service.parts x.engine.tables) (with_points y asked) c.args.client c.answer.result (view_in c.answer.new.self)) shown
    (subst (λ (t : Compiled). (s : HasServed (setting_of g.S.Service.ask g.S.Service.sound g.S.Service.parts t) g.T.Stops.test g.T.Stops.asked g.T.Stops.struck g.T.Stops.plan (record x { engine = c.serve.new.self; stops = c.serve.new.stops }) c.args.client c.in-Replied.reply c.in-Replied.patch) (n : ℕ)
    → (view_with s.before (record x { engine = c.serve.new.self; stops = c.serve.new.stops })).run.points ≡ asked_after n 1
    → Steps (setting_of g.S.Service.ask g.S.Service.sound g.S.Service.parts t) (with_points (view_with s.before (record x { engine = c.serve.new.self; stops = c.serve.new.stops })) n) c.args.client c.answer.result (view_in c.answer.new.self))
    (c.serve.ensures.tables ∙ c.reserve.ensures.tables) c.answer.ensures.did (served g replied) asked (ap (λ (y : WorldView). y.run.points) shown ∙ was))

pub returns-in-Blocks-clause-order : goal.returns-in-Blocks-clause-order
returns-in-Blocks-clause-order g c = let s = (goal.at.returns-in-Blocks-clause-order g c).After-serve in waits_order (ready g s) (kept g s) (turn g s _ c.in-Blocks.is) c.block.new.self c.block.ensures

pub returns-in-Blocks-clause-did : goal.returns-in-Blocks-clause-did
returns-in-Blocks-clause-did g c = let s = (goal.at.returns-in-Blocks-clause-did g c).After-serve in waits_line_now (ready g s) (kept g s) (turn g s _ c.in-Blocks.is) c.block.new.self c.block.ensures

pub returns-in-Stopped-clause-order : goal.returns-in-Stopped-clause-order
returns-in-Stopped-clause-order g c = let s = (goal.at.returns-in-Stopped-clause-order g c).After-serve in stops_order (ready g s) (kept g s) (turn g s _ c.in-Stopped.is)

pub returns-in-Stopped-clause-did : goal.returns-in-Stopped-clause-did
returns-in-Stopped-clause-did g c = λ asked was.
    let s = (goal.at.returns-in-Stopped-clause-did g c).After-serve in inr (inr (inl (stops_line_now (ready g s) (kept g s) (turn g s _ c.in-Stopped.is) asked was)))

pub returns-in-NoMemory-clause-order : goal.returns-in-NoMemory-clause-order
returns-in-NoMemory-clause-order g c = let s = (goal.at.returns-in-NoMemory-clause-order g c).After-serve in nothing_order (ready g s) (kept g s) (turn g s _ c.in-NoMemory.is)

pub returns-in-NoMemory-clause-err : goal.returns-in-NoMemory-clause-err
returns-in-NoMemory-clause-err g c = let s = (goal.at.returns-in-NoMemory-clause-err g c).After-serve in nothing_shown (ready g s) (kept g s) (turn g s _ c.in-NoMemory.is)
