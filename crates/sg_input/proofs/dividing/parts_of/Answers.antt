-- Nothing is left to divide.
use Rattle.std.proofs.Common.{map}
use Rattle.sg_input.proofs.Divided.{ends_so}
use Rattle.sg_input.proofs.dividing.parts_of.Goals as goal

pub returns : goal.returns
returns c = ends_so c.args.input.now c.dividers.script.now (map (λ t. t.now) c.dividers.interfaces.items) c.in_default.ensures c.dividers.invariant
