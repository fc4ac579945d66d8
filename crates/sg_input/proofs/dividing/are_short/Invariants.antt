-- No text so far is too long.
use Rattle.std.proofs.Common.{◌≡◌, drop, map}
use Rattle.sg_input.specs.MultiInputs.{are_short}
use Rattle.sg_input.proofs.dividing.are_short.Given as goal

abbrev pub invariant-texts : goal.invariant-texts
invariant-texts l = are_short (map (λ t. t.now) (drop l.text-index l.texts)) l.script ≡ are_short (map (λ t. t.now) l.texts) l.script
