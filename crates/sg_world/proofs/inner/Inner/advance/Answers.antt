-- The parts stay in order where the engine does one step more of what a call needs, and it is the line of the step.
use Rattle.std.proofs.Common.{Ok, Some, ap, length, refl, subst, sym, ℕ, ◌∙◌, ◌≡◌, ◌≤◌}
use Rattle.std.specs.declared.result.Result.{Result}
use Rattle.sg_facts.specs.sg_base.Stops.{asked_after}
use Rattle.sg_facts.specs.sg_base.declared.memory.NoMemory.{NoMemory}
use Rattle.sg_world.specs.Engines.Engines.{as_shown}
use Rattle.sg_facts.specs.Invoke.{Points}
use Rattle.sg_facts.specs.Object.{Object}
use Rattle.sg_replay.specs.declared.advance.Advanced.{Advanced}
use Rattle.sg_replay.specs.declared.advance.Advanced.TheVariants.{Loaded, Replayed, Struck}
use Rattle.sg_clients.specs.WorldView.{WorldView, seat_of, with_points}
use Rattle.sg_world.specs.Due.{needs_in}
use Rattle.sg_world.specs.Inners.{IsInOrder, rooms_in, view_in}
use Rattle.sg_world.specs.Steps.{Steps}
use Rattle.sg_world.specs.Worlded.{IsWorld, setting_of, view_of}
use Rattle.sg_world.proofs.Points.{some_is}
use Rattle.sg_world.proofs.Rebuilding.{IsTurn, advanced_on, counts_on, line_of, may_of, nothing_on, on_err, step_of, turn_of}
use Rattle.sg_world_laws.specs.Setting.{Setting}
use Rattle.sg_world.proofs.inner.Inner.advance.Given
use Rattle.sg_world.proofs.inner.Inner.advance.Goals.{After-advance}
use Rattle.sg_world.proofs.inner.Inner.advance.Goals as goal

pub advance-requires : goal.advance-requires
advance-requires g c =
    let x = c.args.self.now in
    let z = setting_of g.S.Service.ask g.S.Service.sound g.S.Service.parts x.engine.tables in
    let held = some_is x.engine.cell.running c.requires.up in
    may_of z x.engine (view_in x) (rooms_in x) c.requires.order.world refl refl refl c.args.client c.requires.client.0 c.requires.client.1 c.requires.let_in held.0 held.1
    g.S.Service.facts c.requires.order.service c.args.file.now c.requires.file c.args.todo c.requires.due

-- the engine did the step
module _ (g : Given.Over) (c : After-advance g) where
  abbrev z : Setting
  z = setting_of g.S.Service.ask g.S.Service.sound g.S.Service.parts c.args.self.now.engine.tables

  abbrev w : WorldView
  w = view_in c.args.self.now

  abbrev held : (v : Object) × (c.args.self.now.engine.cell.running ≡ Some v)
  held = some_is c.args.self.now.engine.cell.running c.requires.up

  abbrev start : Points
  start = record { asked = g.T.Stops.asked c.args.self.now.stops; struck = g.T.Stops.struck c.args.self.now.stops }

  abbrev later : Points
  later = record { asked = g.T.Stops.asked c.advance.new.stops; struck = g.T.Stops.struck c.advance.new.stops }

  -- its turn, at what it gave
  turn : (result : Result Advanced NoMemory) → c.advance.result ≡ result
      → IsTurn z c.args.self.now.engine (needs_in z w (seat_of w c.args.client).call) (seat_of w c.args.client).call.client held.0 start result c.advance.new.self later
  turn result is =
      subst (λ r. IsTurn z c.args.self.now.engine (needs_in z w (seat_of w c.args.client).call) (seat_of w c.args.client).call.client held.0 start r c.advance.new.self later) is
      (turn_of z c.args.self.now.engine w (rooms_in c.args.self.now) c.requires.order.world refl refl refl c.args.client c.requires.client.0 c.requires.client.1 c.requires.let_in held.0 held.1
      g.S.Service.facts c.requires.order.service c.args.file.now c.requires.file c.args.todo c.requires.due start c.advance.result c.advance.new.self later
      (record { walk = c.advance.ensures.walk; load = c.advance.ensures.load; stored = c.advance.ensures.stored; tracked = c.advance.ensures.tracked }))

  order : IsInOrder g.S.Service.facts g.S.Service.ask g.S.Service.sound g.S.Service.parts g.T.Stops.test g.T.Stops.asked g.T.Stops.struck g.T.Stops.plan (record c.args.self.now { engine = c.advance.new.self; stops = c.advance.new.stops })
  order =
      let x = c.args.self.now in
      let new = c.advance.new.self in
      let counts = counts_on z x.engine w (rooms_in x) c.requires.order.world refl refl refl c.args.client c.requires.client.0 c.requires.client.1 c.requires.let_in held.0 held.1
      start new later c.requires.order.points.asked_so c.requires.order.points.struck_so c.advance.result (turn c.advance.result refl) in
      record {
        world = subst (λ t. IsWorld (setting_of g.S.Service.ask g.S.Service.sound g.S.Service.parts t) new (view_of new x.history.items x.clients x.withdrawn.items x.marks.items x.events x.refused) (rooms_in x)) (sym c.advance.ensures.tables)
            (advanced_on z x.engine w (rooms_in x) c.requires.order.world refl refl refl c.args.client c.requires.client.0 c.requires.client.1 c.requires.let_in held.0 held.1
            start new later c.advance.ensures.tracked c.advance.ensures.stored c.advance.result (turn c.advance.result refl));
        points = record { asked_so = counts.0; struck_so = counts.1; tested = c.advance.ensures.test c.requires.order.points.tested };
        clients = subst (λ s. length x.clients ≤ s.clients) (sym c.advance.ensures.stored) c.requires.order.clients;
        service = ap (λ t. t.iface.facts) c.advance.ensures.tables ∙ c.requires.order.service;
      }

  -- the line of what it did
  line : (did : Advanced) → c.advance.result ≡ Ok did → (asked : ℕ) → w.run.points ≡ asked_after asked 1 → Steps z (with_points w asked) c.args.client (step_of did) (as_shown w c.advance.new.self)
  line did is asked points =
      line_of z c.args.self.now.engine w (rooms_in c.args.self.now) c.requires.order.world refl refl refl c.args.client c.requires.client.0 c.requires.client.1 c.requires.let_in held.0 held.1
      start c.advance.new.self later asked points c.requires.order.points.asked_so did (turn (Ok did) is)

pub returns-in_err-advance-clause-order : goal.returns-in_err-advance-clause-order
returns-in_err-advance-clause-order g c = order g (goal.at.returns-in_err-advance-clause-order g c).After-advance

pub returns-in_err-advance-clause-err : goal.returns-in_err-advance-clause-err
returns-in_err-advance-clause-err g c =
    let x = c.args.self.now in
    let s = (goal.at.returns-in_err-advance-clause-err g c).After-advance in
    on_err c.from_residual.result (as_shown (w g s) c.advance.new.self ≡ w g s)
    (nothing_on (z g s) x.engine (w g s) (rooms_in x) c.requires.order.world refl refl refl c.args.client c.requires.client.0 c.requires.client.1 c.requires.let_in (held g s).0 (held g s).1
    (start g s) c.advance.new.self (later g s) (turn g s _ c.in_err-advance.was).0)

pub returns-in-Replayed-clause-order : goal.returns-in-Replayed-clause-order
returns-in-Replayed-clause-order g c = order g (goal.at.returns-in-Replayed-clause-order g c).After-advance

pub returns-in-Replayed-clause-did : goal.returns-in-Replayed-clause-did
returns-in-Replayed-clause-did g c = line g (goal.at.returns-in-Replayed-clause-did g c).After-advance Replayed (c.in_ok-advance.was ∙ ap (λ did. Ok did) c.in-Replayed.is)

pub returns-in-Loaded-clause-order : goal.returns-in-Loaded-clause-order
returns-in-Loaded-clause-order g c = order g (goal.at.returns-in-Loaded-clause-order g c).After-advance

pub returns-in-Loaded-clause-did : goal.returns-in-Loaded-clause-did
returns-in-Loaded-clause-did g c = line g (goal.at.returns-in-Loaded-clause-did g c).After-advance Loaded (c.in_ok-advance.was ∙ ap (λ did. Ok did) c.in-Loaded.is)

pub returns-in-Struck-clause-order : goal.returns-in-Struck-clause-order
returns-in-Struck-clause-order g c = order g (goal.at.returns-in-Struck-clause-order g c).After-advance

pub returns-in-Struck-clause-did : goal.returns-in-Struck-clause-did
returns-in-Struck-clause-did g c = line g (goal.at.returns-in-Struck-clause-did g c).After-advance Struck (c.in_ok-advance.was ∙ ap (λ did. Ok did) c.in-Struck.is)
