-- The first bytes are written.
use Rattle.std.proofs.Common.{◌≡◌, ◌++◌, take}
use Rattle.sg_draw.specs.Shown.{escaped}
use Rattle.sg_draw.proofs.visible.push_escaped.Given as goal

abbrev pub invariant-loop-byte : goal.invariant-loop-byte
invariant-loop-byte l = l.out ≡ l.initial.out ++ escaped (take l.byte-index l.bytes)
