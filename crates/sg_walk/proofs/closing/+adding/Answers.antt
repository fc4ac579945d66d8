-- Field by field.
use Rattle.std.proofs.Common.{◌≡◌, suc, ◌-◌, ◌%◌, true, false, map, sym, ◌∙◌, ap, subst, arith}
use Rattle.std.specs.Prelude.{◌==◌}
use Rattle.sg_facts.specs.Walks.{effect_on, may_leave}
use Rattle.sg_walk.specs.ReachedStates.Inside.Places.{AddsJust, IsLedOn, IsLedWith}
use Rattle.sg_walk.proofs.ReachedStates.Leading.{led_both, led_last, led_not, led_with}
use Rattle.sg_walk.proofs.closing.+adding.Goals as goal

pub add_on-returns-then-count-eq0 : goal.add_on-returns-then-count-eq0
add_on-returns-then-count-eq0 t c =
    let none : c.args.count ≡ 0 = omega (arith, c.if-count-eq0.true) in
    subst (λ n. AddsJust (IsLedOn (map (λ p. (p.0, p.1)) c.args.effects.now) c.args.field n c.args.old c.args.settled) c.args.found.now c.add.new.self) (sym none)
    (led_last (map (λ p. (p.0, p.1)) c.args.effects.now) c.args.field c.args.old c.args.settled c.args.found.now c.add.new.self c.in_ok-add.ensures.ok)

pub add_on-returns : goal.add_on-returns
add_on-returns t c =
    led_both (map (λ p. (p.0, p.1)) c.args.effects.now) c.args.field c.args.old c.args.settled c.args.count c.args.found.now c.add_with.new.found c.add_with-2.new.found
    c.in_ok-add_with.ensures c.in_ok-add_with-2.ensures

pub add_with-returns-then-not-may_leave : goal.add_with-returns-then-not-may_leave
add_with-returns-then-not-may_leave t c =
    let one_more : c.args.count ≡ suc (c.args.count - 1) = omega (arith, c.requires.some) in
    let not_so : may_leave (effect_on (map (λ p. (p.0, p.1)) c.args.effects.now) c.args.field) (c.args.old % 2 == 1) c.args.is_set ≡ false =
    sym (c.may_leave.ensures ∙ ap (λ e. may_leave e (c.args.old % 2 == 1) c.args.is_set) c.effect_on.ensures) ∙ c.if-not-may_leave.true in
    subst (λ n. AddsJust (IsLedWith (map (λ p. (p.0, p.1)) c.args.effects.now) c.args.field n c.args.old c.args.settled c.args.is_set) c.args.found.now c.args.found.now) (sym one_more)
    (led_not (map (λ p. (p.0, p.1)) c.args.effects.now) c.args.field c.args.old c.args.settled (c.args.count - 1) c.args.is_set c.args.found.now not_so)

pub add_with-returns : goal.add_with-returns
add_with-returns t c =
    let one_more : c.args.count ≡ suc (c.args.count - 1) = omega (arith, c.requires.some) in
    let so : may_leave (effect_on (map (λ p. (p.0, p.1)) c.args.effects.now) c.args.field) (c.args.old % 2 == 1) c.args.is_set ≡ true =
    sym (c.may_leave.ensures ∙ ap (λ e. may_leave e (c.args.old % 2 == 1) c.args.is_set) c.effect_on.ensures) ∙ c.if-not-may_leave.false in
    subst (λ n. AddsJust (IsLedWith (map (λ p. (p.0, p.1)) c.args.effects.now) c.args.field n c.args.old c.args.settled c.args.is_set) c.args.found.now c.add_on.new.found) (sym one_more)
    (led_with (map (λ p. (p.0, p.1)) c.args.effects.now) c.args.field c.args.old c.args.settled (c.args.count - 1) c.args.is_set c.with_field-next.result c.args.found.now c.add_on.new.found
    so c.with_field-next.ensures.place c.in_ok-add_on.ensures)
