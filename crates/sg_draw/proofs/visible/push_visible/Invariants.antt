-- The first bytes are written.
use Rattle.std.proofs.Common.{◌≡◌, ◌++◌, take}
use Rattle.sg_draw.specs.Shown.{visible}
use Rattle.sg_draw.proofs.visible.push_visible.Given as goal

abbrev pub invariant-loop-byte : goal.invariant-loop-byte
invariant-loop-byte l = l.out ≡ l.initial.out ++ visible (take l.byte-index l.bytes)
