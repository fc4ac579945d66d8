-- The turn was taken, or is still to be taken.
use Rattle.std.proofs.Common.{true, length, ◌+◌, ◌≡◌, ◌≤◌, sym, subst}
use Rattle.sg_facts.specs.Tables.{Compiled}
use Rattle.sg_play.specs.Following.Stages.{IsNextTurn, stage_of}
use Rattle.sg_play.specs.sg_plain.Playing.Callers.{handed, is_setting_up}
use Rattle.sg_play.specs.sg_plain.Playing.Turns.{is_free_phase}
use Rattle.sg_play.specs.sg_clients.WorldView.{seat_of}
use Rattle.sg_sim.proofs.Keeping.{kept_miss, kept_turn}
use Rattle.sg_sim.proofs.Others.{OthersKeep, done_free, missed_on, one_missed, one_taken, others_missed, others_taken, setup_keeps}
use Rattle.sg_sim.specs.Inside.Givens.{lists_of}
use Rattle.sg_sim.specs.Inside.Keeps.{KeepsPlay}
use Rattle.sg_sim.specs.Inside.Next.{stage_now}
use Rattle.sg_sim.specs.Playing.{Playing}
use Rattle.sg_play.specs.sg_world.Worlded.{setting_of}
use Rattle.sg_play.specs.sg_world_laws.Setting.{Setting}
use Rattle.sg_sim.proofs.play.Play.take.Goals as goal

pub invariant_of-self : goal.invariant_of-self
invariant_of-self g c =
    let x = c.self.inside in
    let z : Setting = setting_of g.S.Service.ask g.S.Service.sound g.S.Service.parts x.world.tables in
    let there : c.args.turn.client ≤ length x.world.view.seats = subst (λ (q : Playing). c.args.turn.client ≤ length q.view.seats) (sym c.self.view_is) c.requires.client.1 in
    let new = c.take_turn.new in
    subst (λ (t : Compiled). KeepsPlay (setting_of g.S.Service.ask g.S.Service.sound g.S.Service.parts t) x.script new.world.view (lists_of new.given) x.passed x.last x.in_order) (sym c.take_turn.ensures.tables)
    (kept_miss z x.script x.world.view (lists_of x.given) x.passed x.last x.in_order c.self.invariant c.args.turn.client c.requires.client.0 there new.world.view (lists_of new.given) c.in_err-take_turn.ensures.missed)

pub invariant_of-self-2 : goal.invariant_of-self-2
invariant_of-self-2 g c =
    let x = c.self.inside in
    let z : Setting = setting_of g.S.Service.ask g.S.Service.sound g.S.Service.parts x.world.tables in
    let there : c.args.turn.client ≤ length x.world.view.seats = subst (λ (q : Playing). c.args.turn.client ≤ length q.view.seats) (sym c.self.view_is) c.requires.client.1 in
    let next : IsNextTurn x.script (stage_of x.script x.world.view x.passed x.last) c.args.turn.client c.args.turn.passed
    = subst (λ (q : Playing). IsNextTurn q.script (stage_now q) c.args.turn.client c.args.turn.passed) (sym c.self.view_is) c.requires.next in
    let new = c.take_turn.new in
    subst (λ (t : Compiled). KeepsPlay (setting_of g.S.Service.ask g.S.Service.sound g.S.Service.parts t) x.script new.world.view (lists_of new.given) c.args.turn.passed c.args.turn.client x.in_order) (sym c.take_turn.ensures.tables)
    (kept_turn z x.script x.world.view (lists_of x.given) x.passed x.last x.in_order c.self.invariant c.args.turn.client c.requires.client.0 there
    (λ on. c.requires.setup (subst (λ (q : Playing). is_setting_up q.script q.view.seats ≡ true) c.self.view_is on)) c.args.turn.passed x.in_order (λ so. (so, next))
    c.in_ok-take_turn.field-0 new.world.view (lists_of new.given) c.in_ok-take_turn.ensures.taken)

pub returns-in_err-take_turn-clause-one : goal.returns-in_err-take_turn-clause-one
returns-in_err-take_turn-clause-one g c =
    let x = c.self.inside in
    let z : Setting = setting_of g.S.Service.ask g.S.Service.sound g.S.Service.parts x.world.tables in
    let new = c.take_turn.new in
    subst (λ (q : Playing). handed (seat_of new.world.view 1) ≤ handed (seat_of q.view 1) + 1) c.self.view_is
    (one_missed z x.script x.world.view (lists_of x.given) c.args.turn.client c.self.invariant.playing new.world.view (lists_of new.given) c.in_err-take_turn.ensures.missed)

pub returns-in_err-take_turn-clause-others : goal.returns-in_err-take_turn-clause-others
returns-in_err-take_turn-clause-others g c = λ setting client from.
    let x = c.self.inside in
    let z : Setting = setting_of g.S.Service.ask g.S.Service.sound g.S.Service.parts x.world.tables in
    let new = c.take_turn.new in
    let was : is_setting_up x.script x.world.view.seats ≡ true = subst (λ (q : Playing). is_setting_up q.script q.view.seats ≡ true) (sym c.self.view_is) setting in
    let keeps : OthersKeep 1 x.world.view.seats new.world.view.seats = subst (λ n. OthersKeep n x.world.view.seats new.world.view.seats) (c.requires.setup setting)
    (others_missed z x.script x.world.view (lists_of x.given) c.args.turn.client c.requires.client.0 new.world.view (lists_of new.given) c.in_err-take_turn.ensures.missed) in
    subst (λ (q : Playing). seat_of new.world.view client ≡ seat_of q.view client) c.self.view_is
    (setup_keeps z.iface x.script x.world.view.history x.world.view.seats new.world.view.seats (lists_of x.given) c.self.invariant.playing was keeps client from)

pub returns-clause-one : goal.returns-clause-one
returns-clause-one g c =
    let x = c.self.inside in
    let z : Setting = setting_of g.S.Service.ask g.S.Service.sound g.S.Service.parts x.world.tables in
    let new = c.take_turn.new in
    subst (λ (q : Playing). handed (seat_of new.world.view 1) ≤ handed (seat_of q.view 1) + 1) c.self.view_is
    (one_taken z x.script x.world.view (lists_of x.given) c.args.turn.client c.self.invariant.playing c.in_ok-take_turn.field-0 new.world.view (lists_of new.given) c.in_ok-take_turn.ensures.taken)

pub returns-clause-others : goal.returns-clause-others
returns-clause-others g c = λ setting client from.
    let x = c.self.inside in
    let z : Setting = setting_of g.S.Service.ask g.S.Service.sound g.S.Service.parts x.world.tables in
    let new = c.take_turn.new in
    let there : c.args.turn.client ≤ length x.world.view.seats = subst (λ (q : Playing). c.args.turn.client ≤ length q.view.seats) (sym c.self.view_is) c.requires.client.1 in
    let was : is_setting_up x.script x.world.view.seats ≡ true = subst (λ (q : Playing). is_setting_up q.script q.view.seats ≡ true) (sym c.self.view_is) setting in
    let keeps : OthersKeep 1 x.world.view.seats new.world.view.seats = subst (λ n. OthersKeep n x.world.view.seats new.world.view.seats) (c.requires.setup setting)
    (others_taken z x.script x.world.view (lists_of x.given) c.args.turn.client c.requires.client.0 c.in_ok-take_turn.field-0 new.world.view (lists_of new.given) c.self.invariant.playing there c.in_ok-take_turn.ensures.taken) in
    subst (λ (q : Playing). seat_of new.world.view client ≡ seat_of q.view client) c.self.view_is
    (setup_keeps z.iface x.script x.world.view.history x.world.view.seats new.world.view.seats (lists_of x.given) c.self.invariant.playing was keeps client from)

pub returns-in_err-take_turn-clause-free : goal.returns-in_err-take_turn-clause-free
returns-in_err-take_turn-clause-free g c = λ on done.
    let x = c.self.inside in
    let z : Setting = setting_of g.S.Service.ask g.S.Service.sound g.S.Service.parts x.world.tables in
    let new = c.take_turn.new in
    let there : c.args.turn.client ≤ length x.world.view.seats = subst (λ (q : Playing). c.args.turn.client ≤ length q.view.seats) (sym c.self.view_is) c.requires.client.1 in
    let was : is_setting_up x.script x.world.view.seats ≡ true = subst (λ (q : Playing). is_setting_up q.script q.view.seats ≡ true) (sym c.self.view_is) on in
    absurd (missed_on z x.script x.world.view (lists_of x.given) c.args.turn.client c.requires.client.0 there c.self.invariant.playing new.world.view (lists_of new.given) c.in_err-take_turn.ensures.missed was done)

pub returns-clause-free : goal.returns-clause-free
returns-clause-free g c = λ on done.
    let x = c.self.inside in
    let z : Setting = setting_of g.S.Service.ask g.S.Service.sound g.S.Service.parts x.world.tables in
    let new = c.take_turn.new in
    let there : c.args.turn.client ≤ length x.world.view.seats = subst (λ (q : Playing). c.args.turn.client ≤ length q.view.seats) (sym c.self.view_is) c.requires.client.1 in
    let was : is_setting_up x.script x.world.view.seats ≡ true = subst (λ (q : Playing). is_setting_up q.script q.view.seats ≡ true) (sym c.self.view_is) on in
    subst (λ n. is_free_phase (seat_of new.world.view n).phase ≡ true) (c.requires.setup on)
    (done_free z x.script x.world.view (lists_of x.given) c.args.turn.client c.requires.client.0 there c.self.invariant.playing c.in_ok-take_turn.field-0 new.world.view (lists_of new.given) c.in_ok-take_turn.ensures.taken was done)
