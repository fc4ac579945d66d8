-- The ids of the rows so far.
use Rattle.std.proofs.Common.{◌≡◌, map, take}
use Rattle.std.specs.Map.{values_of}
use Rattle.sg_track.specs.Kept.{rows_of}
use Rattle.sg_track.proofs.places.ids_in.Given as goal

abbrev pub invariant-rows : goal.invariant-rows
invariant-rows l = l.ids ≡ map (λ r. r.id) (rows_of (take l.at (values_of l.kept.entries)))
