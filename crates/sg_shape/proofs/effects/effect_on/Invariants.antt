-- None so far is on the field.
use Rattle.std.proofs.Common.{◌≡◌, None, take}
use Rattle.std.specs.Prelude.{find}
use Rattle.std.specs.Str.{bytes_eq}
use Rattle.sg_shape.proofs.effects.effect_on.Given as goal

abbrev pub invariant-effects : goal.invariant-effects
invariant-effects l = find (λ e. bytes_eq e.0 l.name) (take l.one-index l.effects) ≡ None
