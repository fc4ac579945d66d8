-- The turn was taken, or missed.
use Rattle.std.proofs.Common.{◌≡◌, ◌∙◌, ℕ, Some, ap, sym, subst, arith}
use Rattle.std.specs.declared.option.Option.{Option}
use Rattle.sg_facts.specs.Tables.{Compiled}
use Rattle.sg_play.specs.Recovering.{RecoversSoFar}
use Rattle.sg_play.specs.Turning.{StepsInTurn}
use Rattle.sg_play.specs.sg_plain.Playing.Given.{with_handed}
use Rattle.sg_play.specs.sg_plain.Playing.Plays.{IsPlaying}
use Rattle.sg_sim.proofs.Taking.{missed_offer, missed_step, on_err, taken}
use Rattle.sg_sim.specs.Inside.Givens.{lists_of}
use Rattle.sg_sim.specs.Inside.Taken.{TakesTurn}
use Rattle.sg_play.specs.sg_world.Steps.{LackedMemory}
use Rattle.sg_play.specs.sg_world.Worlded.{setting_of}
use Rattle.sg_play.specs.sg_world_laws.Setting.{Setting}
use Rattle.sg_sim.proofs.turn.take_turn.Goals as goal
use Rattle.sg_sim.proofs.turn.take_turn.Goals.{in-Some, in_default}

pub returns-in_err-offer_next-clause-missed : goal.returns-in_err-offer_next-clause-missed
returns-in_err-offer_next-clause-missed g c =
    let z : Setting = setting_of g.S.Service.ask g.S.Service.sound g.S.Service.parts c.args.world.now.tables in
    on_err _ c.from_residual-in_err-offer_next.result
    (missed_offer z c.args.script.now c.args.world.now.view (lists_of c.args.given.now) c.args.client c.offer_next.new.world.view (lists_of c.reserve.new.self) c.reserve.ensures.lists
    (c.offer_next.ensures.playing (lists_of c.args.given.now) c.requires.playing) c.in_err-offer_next.ensures.err)

pub make_step-requires-clause-client : goal.make_step-requires-clause-client
make_step-requires-clause-client g c = (
  c.requires.client.0,
  omega (arith, c.requires.client.1, c.requires.playing.clients, (c.offer_next.ensures.playing (lists_of c.args.given.now) c.requires.playing).clients),
)

pub make_step-requires-clause-playing : goal.make_step-requires-clause-playing
make_step-requires-clause-playing g c = (
  lists_of c.args.given.now,
  subst (λ (t : Compiled). IsPlaying t.iface c.args.script.now c.offer_next.new.world.view.history c.offer_next.new.world.view.seats (lists_of c.args.given.now)) (sym c.offer_next.ensures.tables)
      (c.offer_next.ensures.playing (lists_of c.args.given.now) c.requires.playing),
)

pub returns-in_err-handed-clause-missed : goal.returns-in_err-handed-clause-missed
returns-in_err-handed-clause-missed g c =
    let z : Setting = setting_of g.S.Service.ask g.S.Service.sound g.S.Service.parts c.args.world.now.tables in
    let lists = lists_of c.args.given.now in
    let offered = c.offer_next.ensures.playing lists c.requires.playing in
    let later = c.make_step.new.world.view in
    on_err _ c.from_residual-in_err-handed.result
    (missed_step z c.args.script.now c.args.world.now.view lists c.args.client c.offer_next.new.world.view later (lists_of c.reserve.new.self) c.in_ok-offer_next.ensures.ok offered c.reserve.ensures.lists
    (subst (λ (t : Compiled). IsPlaying t.iface c.args.script.now later.history later.seats lists) c.offer_next.ensures.tables
    (c.in_err-handed.ensures.err lists (subst (λ (t : Compiled). IsPlaying t.iface c.args.script.now c.offer_next.new.world.view.history c.offer_next.new.world.view.seats lists) (sym c.offer_next.ensures.tables) offered)))
    (subst (λ (t : Compiled). LackedMemory (setting_of g.S.Service.ask g.S.Service.sound g.S.Service.parts t) c.offer_next.new.world.view c.args.client later) c.offer_next.ensures.tables c.in_err-handed.ensures.wants))

pub returns-clause-taken : goal.returns-clause-taken
returns-clause-taken g c =
    let z : Setting = setting_of g.S.Service.ask g.S.Service.sound g.S.Service.parts c.args.world.now.tables in
    let lists = lists_of c.args.given.now in
    let offered = c.offer_next.ensures.playing lists c.requires.playing in
    let x = c.offer_next.new.world.view in
    let later = c.make_step.new.world.view in
    let handed = c.in_ok-handed.handed in
    let same : handed ≡ c.match-handed.handed = elim c.match-handed.branch [ in-Some w ↦ w.in-Some.is ∙ sym w.handed-is | in_default w ↦ sym w.handed-is ] in
    subst (λ (h : Option ℕ). TakesTurn z c.args.script.now c.args.world.now.view lists c.args.client h later (lists_of c.match-handed.given)) same
    (taken z c.args.script.now c.args.world.now.view lists c.args.client x later handed (lists_of c.match-handed.given) c.in_ok-offer_next.ensures.ok offered
    (subst (λ (t : Compiled). RecoversSoFar (setting_of g.S.Service.ask g.S.Service.sound g.S.Service.parts t) x) c.offer_next.ensures.tables c.tell_world.ensures)
    (subst (λ (t : Compiled). StepsInTurn (setting_of g.S.Service.ask g.S.Service.sound g.S.Service.parts t) c.args.script.now x c.args.client handed later) c.offer_next.ensures.tables c.in_ok-handed.ensures.steps)
    (elim c.match-handed.branch [
      | in-Some w ↦ ap lists_of w.given-is ∙ w.add.ensures ∙ ap (λ l. with_handed l c.args.client (Some w.in-Some.id)) c.reserve.ensures.lists ∙ ap (with_handed lists c.args.client) (sym w.in-Some.is)
      | in_default w ↦ ap lists_of w.given-is ∙ c.reserve.ensures.lists ∙ ap (with_handed lists c.args.client) (sym w.in_default.is)
    ])
    (subst (λ (t : Compiled). IsPlaying t.iface c.args.script.now later.history later.seats (with_handed lists c.args.client handed)) c.offer_next.ensures.tables
    (c.in_ok-handed.ensures.ok lists (subst (λ (t : Compiled). IsPlaying t.iface c.args.script.now x.history x.seats lists) (sym c.offer_next.ensures.tables) offered)))
    (subst (λ (t : Compiled). RecoversSoFar (setting_of g.S.Service.ask g.S.Service.sound g.S.Service.parts t) later) (c.make_step.ensures.tables ∙ c.offer_next.ensures.tables) c.tell_world-2.ensures))
