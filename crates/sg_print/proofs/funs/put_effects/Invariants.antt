use Rattle.std.proofs.Common.{◌≡◌, ◌++◌, take, map}
use Rattle.std.specs.List.{flat_map}
use Rattle.sg_print.specs.Inside.Pieces.{effect_piece}
use Rattle.sg_print.proofs.funs.put_effects.Given as goal

-- the effects so far
abbrev pub invariant-loop-effect : goal.invariant-loop-effect
invariant-loop-effect l =
    l.out ≡ l.initial.out ++ flat_map (effect_piece (map (λ f. record { name = f.name.now; text = f.text }) l.fields) l.fun.kinds.now) (take l.effect-index l.fun.effects.now)
