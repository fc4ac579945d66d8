use Rattle.std.proofs.Common.{◌*◌}
use Rattle.test_passes.specs.Ready.{HasMade}
use Rattle.test_passes.proofs.pairs.take_often.Given as goal

abbrev pub invariant-pairs : goal.invariant-pairs
invariant-pairs g l = HasMade (2 * l._pair) l.fn.pass l.pass
