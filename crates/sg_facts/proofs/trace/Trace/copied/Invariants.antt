-- The boots copied so far are the first ones.
use Rattle.std.proofs.Common.{◌≡◌, map, take}
use Rattle.sg_facts.specs.Inside.Rows.{boot_of}
use Rattle.sg_facts.proofs.trace.Trace.copied.Given as goal

abbrev pub invariant-loop-boot : goal.invariant-loop-boot
invariant-loop-boot l = map boot_of l.boots.items ≡ map boot_of (take l.boot-index l.boot-items)
