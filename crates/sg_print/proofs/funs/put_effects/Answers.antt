-- The effects are those of the facts.
use Rattle.std.proofs.Common.{◌++◌, map, ◌∙◌, ap}
use Rattle.std.specs.List.{flat_map}
use Rattle.std.proofs.lemmas.List.{take_all}
use Rattle.sg_print.specs.Inside.Pieces.{effect_piece}
use Rattle.sg_print.proofs.Numbers.{effects_shown}
use Rattle.sg_print.proofs.funs.put_effects.Goals as goal

pub returns : goal.returns
returns c =
    let fields = map (λ f. record { name = f.name.now; text = f.text }) c.args.fields.now in
    c.loop-effect.invariant
    ∙ ap (λ l. c.args.out.now ++ flat_map (effect_piece fields c.args.fun.now.kinds.now) l) (take_all c.loop-effect.effect-index c.args.fun.now.effects.now c.loop-effect-test.false)
    ∙ ap (λ l. c.args.out.now ++ l) (effects_shown fields c.args.fun.now)
