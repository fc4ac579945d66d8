-- The calls of the first items are noted.
use Rattle.std.proofs.Common.{◌≡◌, ℕ, take}
use Rattle.std.specs.Prelude.{if◌then◌else◌}
use Rattle.sg_cost.specs.Inside.LastBoots.{has_call, kept_boot}
use Rattle.sg_cost.proofs.last_boots.note_boot.Given as goal

abbrev pub invariant-items : goal.invariant-items
invariant-items l = (client seq : ℕ) → kept_boot l.last.entries client seq ≡ (if has_call client seq (take l.at l.items.items) then l.number else kept_boot l.initial.last.entries client seq)
