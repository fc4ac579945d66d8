-- What is kept by the offer is kept by the step behind it.
use Rattle.std.proofs.Common.{◌≡◌, ◌∙◌, ℕ, true, ap, arith, sym, subst}
use Rattle.std.specs.Prelude.{option_map}
use Rattle.sg_multi.proofs.Places.{ok_so}
use Rattle.sg_multi.specs.sg_sim.Inside.Givens.{lists_of}
use Rattle.sg_multi.specs.sg_sim.sg_script.declared.multi.MultiCall.{MultiCall}
use Rattle.sg_multi.specs.Inside.Keeps.{is_multi_setting_up}
use Rattle.sg_multi.specs.Inside.Turns.{KeepsRunning, TakesNextTurn}
use Rattle.sg_multi.specs.Inside.Whose.{next_of}
use Rattle.sg_multi.proofs.Turning.{as_many, idle_turn, member_within, some_member, turn_after_offer}
use Rattle.sg_multi.proofs.running.Running.take_turn.Goals as goal

pub offer-requires-clause-next : goal.offer-requires-clause-next
offer-requires-clause-next g c = sym c.in-Some.ensures

pub step-requires-clause-some : goal.step-requires-clause-some
step-requires-clause-some g c =
    let r = c.args.self.now in
    some_member r.members c.args.script.now r.given r.order.items c.requires.keeps.keeps c.args.client c.requires.first c.requires.last c.in-Some.call.now (sym c.in-Some.ensures)

pub step-requires-clause-there : goal.step-requires-clause-there
step-requires-clause-there g c =
    let r = c.args.self.now in
    let within = member_within r.members c.args.script.now r.given r.order.items c.requires.keeps.keeps c.args.client c.requires.first c.requires.last c.in-Some.call.now (sym c.in-Some.ensures) in
    omega (arith, within, as_many r.members c.offer.new.self.members c.offer.ensures.same)

pub step-requires-clause-setup : goal.step-requires-clause-setup
step-requires-clause-setup g c = λ on. c.requires.setup (subst (λ given. is_multi_setting_up c.args.script.now (lists_of given) ≡ true) c.offer.ensures.given on)

pub step-requires-clause-next : goal.step-requires-clause-next
step-requires-clause-next g c =
    let s = c.args.script.now in
    ap (λ given. option_map (λ (y : MultiCall). y.member) (next_of s (lists_of given) c.args.client)) c.offer.ensures.given ∙ ap (option_map (λ (y : MultiCall). y.member)) (sym c.in-Some.ensures)

pub returns-in_default-clause-turned : goal.returns-in_default-clause-turned
returns-in_default-clause-turned g c = λ taken turn. idle_turn c.args.script.now c.args.self.now c.args.client taken c.requires.keeps c.requires.first c.requires.last (sym c.in_default.ensures) turn

pub returns-clause-turned : goal.returns-clause-turned
returns-clause-turned g c =
    let s = c.args.script.now in
    let r = c.args.self.now in
    let q = c.offer.new.self in
    ok_so ((taken : ℕ) → TakesNextTurn s q c.args.client taken → KeepsRunning s (record c.step.new.self { passed = taken; last = c.args.client }))
    ((taken : ℕ) → TakesNextTurn s r c.args.client taken → KeepsRunning s (record c.step.new.self { passed = taken; last = c.args.client })) c.step.result
    (λ turned taken turn. turned taken (turn_after_offer s r q c.args.client taken c.offer.ensures.players c.offer.ensures.passed c.offer.ensures.last turn)) c.step.ensures.turned

pub returns-clause-same : goal.returns-clause-same
returns-clause-same g c = c.step.ensures.same ∙ c.offer.ensures.same
