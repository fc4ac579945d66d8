-- What is below each id that was looked at is there.
use Rattle.std.proofs.Common.{◌^◌, ◌-◌}
use Rattle.std.specs.Option.{option_map_or}
use Rattle.sg_mm.proofs.Growing.{IsGrown}
use Rattle.sg_mm.proofs.subtree.ending.Given as goal

abbrev pub invariant-ids : goal.invariant-ids
invariant-ids l = IsGrown l.children l.id l.next l.ends

-- the numbers from the next on that fit 64 bits
abbrev pub decreases-ids : goal.decreases-ids
decreases-ids l = option_map_or (λ n. 2 ^ 64 - n) l.next 0
