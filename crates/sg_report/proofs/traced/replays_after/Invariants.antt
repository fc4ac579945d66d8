-- The first items are counted.
use Rattle.std.proofs.Common.{◌≡◌, ◌+◌, length, take}
use Rattle.std.specs.Prelude.{filter, min, true}
use Rattle.sg_report.specs.Inside.Pieces.{is_replay_for}
use Rattle.sg_report.proofs.traced.replays_after.Given as goal

abbrev pub invariant-items : goal.invariant-items
invariant-items l = l.count ≡ min (l.before + length (filter (λ item. is_replay_for (λ id. true) item.tag item.outcome) (take l.at l.items.items))) 18446744073709551615
