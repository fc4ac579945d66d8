-- No prototype so far has too many parameters.
use Rattle.std.proofs.Common.{◌≡◌, None, length, take}
use Rattle.std.specs.Prelude.{find, nat_lt}
use Rattle.sg_shape.specs.Limits.{most_params}
use Rattle.sg_shape.proofs.shaping.first_long.Given as goal

abbrev pub invariant-protos : goal.invariant-protos
invariant-protos l = find (λ p. nat_lt most_params (length p.params)) (take l.proto-index l.protos) ≡ None
