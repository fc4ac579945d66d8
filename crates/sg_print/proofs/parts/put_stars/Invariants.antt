use Rattle.std.proofs.Common.{◌≡◌, ◌++◌, replicate}
use Rattle.sg_print.proofs.parts.put_stars.Given as goal

-- so many stars stand after what was there
abbrev pub invariant-loop : goal.invariant-loop
invariant-loop l = l.out ≡ l.initial.out ++ replicate l.counter 0x2A
