-- The turn was taken, or may be taken again.
use Rattle.std.proofs.Common.{true, false, length, ◌≡◌, ◌∙◌, ◌≤◌, ap, sym, subst}
use Rattle.sg_facts.specs.Tables.{Compiled}
use Rattle.sg_play.specs.Turning.{StepsInTurn, with_offer}
use Rattle.sg_play.specs.sg_plain.Playing.Callers.{is_setting_up}
use Rattle.sg_sim.proofs.AnyTurn.{can_again, can_first, can_last, clients_missed, clients_taken, settled_missed, settled_taken}
use Rattle.sg_sim.proofs.Keeping.{kept_aside, kept_miss, kept_turn}
use Rattle.sg_sim.proofs.Others.{has_missed}
use Rattle.sg_sim.proofs.Taking.{on_err}
use Rattle.sg_sim.specs.Inside.Givens.{lists_of}
use Rattle.sg_sim.specs.Inside.Keeps.{KeepsPlay}
use Rattle.sg_sim.specs.Playing.{HasMissed, Playing, can_step}
use Rattle.sg_play.specs.sg_world.Worlded.{setting_of}
use Rattle.sg_play.specs.sg_world_laws.Setting.{Setting}
use Rattle.sg_sim.proofs.play.Play.turn.Goals as goal

pub take_turn-requires-clause-client : goal.take_turn-requires-clause-client
take_turn-requires-clause-client g c = (
  can_first c.args.self.now c.args.client c.requires.can,
  subst (λ (q : Playing). c.args.client ≤ length q.view.seats) (sym c.self.view_is) (can_last c.args.self.now c.args.client c.requires.can),
)

pub invariant_of-self : goal.invariant_of-self
invariant_of-self g c =
    let x = c.self.inside in
    let z : Setting = setting_of g.S.Service.ask g.S.Service.sound g.S.Service.parts x.world.tables in
    let first = can_first c.args.self.now c.args.client c.requires.can in
    let there : c.args.client ≤ length x.world.view.seats = subst (λ (q : Playing). c.args.client ≤ length q.view.seats) (sym c.self.view_is) (can_last c.args.self.now c.args.client c.requires.can) in
    let new = c.take_turn.new in
    let aside = kept_aside z x.script x.world.view (lists_of x.given) x.passed x.last x.in_order c.self.invariant in
    subst (λ (t : Compiled). KeepsPlay (setting_of g.S.Service.ask g.S.Service.sound g.S.Service.parts t) x.script new.world.view (lists_of new.given) x.passed x.last false) (sym c.take_turn.ensures.tables)
    (kept_miss z x.script x.world.view (lists_of x.given) x.passed x.last false aside c.args.client first there new.world.view (lists_of new.given) c.in_err-handed.ensures.missed)

pub invariant_of-self-2 : goal.invariant_of-self-2
invariant_of-self-2 g c =
    let x = c.self.inside in
    let z : Setting = setting_of g.S.Service.ask g.S.Service.sound g.S.Service.parts x.world.tables in
    let first = can_first c.args.self.now c.args.client c.requires.can in
    let there : c.args.client ≤ length x.world.view.seats = subst (λ (q : Playing). c.args.client ≤ length q.view.seats) (sym c.self.view_is) (can_last c.args.self.now c.args.client c.requires.can) in
    let new = c.take_turn.new in
    subst (λ (t : Compiled). KeepsPlay (setting_of g.S.Service.ask g.S.Service.sound g.S.Service.parts t) x.script new.world.view (lists_of new.given) x.passed c.args.client false) (sym c.take_turn.ensures.tables)
    (kept_turn z x.script x.world.view (lists_of x.given) x.passed x.last x.in_order c.self.invariant c.args.client first there
    (λ on. c.requires.setup (subst (λ (q : Playing). is_setting_up q.script q.view.seats ≡ true) c.self.view_is on)) x.passed false (λ so. absurd (cc so))
    c.in_ok-handed.handed new.world.view (lists_of new.given) c.in_ok-handed.ensures.taken)

pub returns-in_err-handed-clause-settled : goal.returns-in_err-handed-clause-settled
returns-in_err-handed-clause-settled g c = λ settled.
    let x = c.self.inside in
    let z : Setting = setting_of g.S.Service.ask g.S.Service.sound g.S.Service.parts x.world.tables in
    let was : is_setting_up x.script x.world.view.seats ≡ false = subst (λ (q : Playing). is_setting_up q.script q.view.seats ≡ false) (sym c.self.view_is) settled in
    let new = c.take_turn.new in
    settled_missed z x.script x.world.view (lists_of x.given) c.args.client c.self.invariant.playing new.world.view (lists_of new.given) c.in_err-handed.ensures.missed was

pub returns-in_err-handed-clause-clients : goal.returns-in_err-handed-clause-clients
returns-in_err-handed-clause-clients g c =
    let x = c.self.inside in
    let z : Setting = setting_of g.S.Service.ask g.S.Service.sound g.S.Service.parts x.world.tables in
    let new = c.take_turn.new in
    clients_missed z x.script x.world.view (lists_of x.given) c.args.client c.self.invariant.playing new.world.view (lists_of new.given) c.in_err-handed.ensures.missed ∙ ap (λ (q : Playing). length q.view.seats) c.self.view_is

pub returns-in_err-handed-clause-again : goal.returns-in_err-handed-clause-again
returns-in_err-handed-clause-again g c =
    let x = c.self.inside in
    let z : Setting = setting_of g.S.Service.ask g.S.Service.sound g.S.Service.parts x.world.tables in
    let new = c.take_turn.new in
    let can = subst (λ (q : Playing). can_step q c.args.client ≡ true) (sym c.self.view_is) c.requires.can in
    on_err _ c.from_residual.result
    (can_again z x.script x.world.view (lists_of x.given) c.args.client c.self.invariant.playing new.world.view (lists_of new.given) c.in_err-handed.ensures.missed can)

pub returns-clause-settled : goal.returns-clause-settled
returns-clause-settled g c = λ settled.
    let x = c.self.inside in
    let z : Setting = setting_of g.S.Service.ask g.S.Service.sound g.S.Service.parts x.world.tables in
    let was : is_setting_up x.script x.world.view.seats ≡ false = subst (λ (q : Playing). is_setting_up q.script q.view.seats ≡ false) (sym c.self.view_is) settled in
    let new = c.take_turn.new in
    settled_taken z x.script x.world.view (lists_of x.given) c.args.client c.self.invariant.playing c.in_ok-handed.handed new.world.view (lists_of new.given) c.in_ok-handed.ensures.taken was

pub returns-clause-clients : goal.returns-clause-clients
returns-clause-clients g c =
    let x = c.self.inside in
    let z : Setting = setting_of g.S.Service.ask g.S.Service.sound g.S.Service.parts x.world.tables in
    let new = c.take_turn.new in
    clients_taken z x.script x.world.view (lists_of x.given) c.args.client c.self.invariant.playing c.in_ok-handed.handed new.world.view (lists_of new.given) c.in_ok-handed.ensures.taken ∙ ap (λ (q : Playing). length q.view.seats) c.self.view_is

pub returns-clause-steps : goal.returns-clause-steps
returns-clause-steps g c =
    let x = c.self.inside in
    let now = c.take_turn.new.world.view in
    let taken = c.in_ok-handed.ensures.taken in
    subst (λ (q : Playing). StepsInTurn (setting_of g.S.Service.ask g.S.Service.sound g.S.Service.parts q.tables) q.script (with_offer q.tables.iface.facts q.script q.view c.args.client) c.args.client c.in_ok-handed.handed now) c.self.view_is taken.steps

pub returns-in_err-handed-clause-missed : goal.returns-in_err-handed-clause-missed
returns-in_err-handed-clause-missed g c =
    let x = c.self.inside in
    let z : Setting = setting_of g.S.Service.ask g.S.Service.sound g.S.Service.parts x.world.tables in
    let new = c.take_turn.new in
    on_err _ c.from_residual.result
    (subst (λ (q : Playing). HasMissed (setting_of g.S.Service.ask g.S.Service.sound g.S.Service.parts q.tables) q.script q.view c.args.client new.world.view) c.self.view_is
    (has_missed z x.script x.world.view (lists_of x.given) c.args.client new.world.view (lists_of new.given) c.in_err-handed.ensures.missed))
