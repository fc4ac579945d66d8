-- The rows are within one id more.
use Rattle.std.proofs.Common.{◌+◌, arith}
use Rattle.sg_facts.proofs.RowLists.{wider}
use Rattle.sg_track.specs.Kept.{rows_in}
use Rattle.sg_track.specs.Tracked.{HasLowerParent}
use Rattle.sg_track.proofs.tracker.Tracker.skip.Goals as goal

pub invariant_of-self : goal.invariant_of-self
invariant_of-self c =
    let s = c.self.inside in
    record {
      tracked = wider HasLowerParent 0 0 s.given (s.given + 1) (rows_in s.kept.entries) (omega arith) (omega arith) c.self.invariant.tracked;
      keyed = c.self.invariant.keyed;
      counted = c.self.invariant.counted;
      room = c.self.invariant.room;
      fields = c.self.invariant.fields;
    }
