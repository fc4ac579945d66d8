-- Effect by effect.
use Rattle.std.proofs.Common.{ℕ, List, Some, sym, ◌∙◌, ap}
use Rattle.std.specs.Option.{option_map}
use Rattle.std.specs.Str.{bytes_eq}
use Rattle.sg_check_statements.specs.sg_facts.declared.shape.Effect.{Effect}
use Rattle.sg_shape.proofs.Loops.{found_here, none_more}
use Rattle.sg_shape.proofs.effects.effect_on.Goals as goal

pub effects-preserved : goal.effects-preserved
effects-preserved c =
    none_more (λ (e : List ℕ × Effect). bytes_eq e.0 c.args.name.now) c.args.effects.now c.effects.one-index c.one-item.result
    c.effects-test.true c.one-item.is c.effects.invariant (sym c.is_on.ensures ∙ c.if-is_on.false)

pub returns-then-is_on : goal.returns-then-is_on
returns-then-is_on c =
    ap Some c.effect.ensures
    ∙ ap (option_map (λ (e : List ℕ × Effect). e.1))
    (sym (found_here (λ (e : List ℕ × Effect). bytes_eq e.0 c.args.name.now) c.args.effects.now c.effects.one-index c.one-item.result
    c.effects-test.true c.one-item.is c.effects.invariant (sym c.is_on.ensures ∙ c.if-is_on.true)))
