-- The first values are made, and there is room for the rest.
use Rattle.std.proofs.Common.{◌≡◌, ◌+◌, ◌≤◌, length, map, take, vec_capacity}
use Rattle.sg_track.specs.Drafts.{drafted}
use Rattle.sg_track.proofs.room.filled.Given as goal

abbrev pub invariant-loop-draft : goal.invariant-loop-draft
invariant-loop-draft l = record {
  made : l.values.items ≡ map (drafted l.call) (take l.draft-index l.drafts);
  room : vec_capacity l.values ≡ 8;
  texts : 8 ≤ length l.texts.items + l.draft-index;
}
