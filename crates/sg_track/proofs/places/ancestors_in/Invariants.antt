-- The ancestors so far, and those from the parent on.
use Rattle.std.proofs.Common.{◌≡◌, ◌++◌}
use Rattle.sg_facts.specs.Track.{ancestors}
use Rattle.sg_track.specs.Kept.{rows_in}
use Rattle.sg_track.proofs.Above.{up_from}
use Rattle.sg_track.proofs.places.ancestors_in.Given as goal

abbrev pub invariant-up : goal.invariant-up
invariant-up l = l.above ++ up_from (rows_in l.kept.entries) l.parent ≡ ancestors (rows_in l.kept.entries) l.id

abbrev pub decreases-up : goal.decreases-up
decreases-up l = l.parent
