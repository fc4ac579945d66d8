use Rattle.std.proofs.Common.{◌≡◌, ◌++◌, map, take}
use Rattle.std.specs.Prelude.{◌==◌, if◌then◌else◌}
use Rattle.sg_explain.proofs.places.put_blanks.Given as goal

-- a blank for each byte so far stands after what was there
abbrev pub invariant-loop-byte : goal.invariant-loop-byte
invariant-loop-byte l = l.out ≡ l.initial.out ++ map (λ b. if b == 9 then 9 else 32) (take l.byte-index l.before)
