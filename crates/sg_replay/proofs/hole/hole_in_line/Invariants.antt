-- What is found on the rest of the way up is what is looked for.
use Rattle.std.proofs.Common.{◌≡◌, ◌∷◌, false}
use Rattle.sg_facts.specs.Track.{ancestors}
use Rattle.sg_name.specs.Names.{named_at}
use Rattle.sg_needs.specs.Inside.Lines.{ids_in}
use Rattle.sg_replay.specs.Missing.{first_hole, is_whole}
use Rattle.sg_replay.proofs.Upwards.{last_hole}
use Rattle.sg_replay.proofs.hole.hole_in_line.Given as goal

abbrev pub invariant-up : goal.invariant-up
invariant-up l = last_hole (λ id. is_whole (named_at l.names.known id)) l.rows.rows (l.at ∷ ancestors l.rows.rows l.at) l.hole ≡ first_hole l.names.known (ids_in false l.rows.rows l.id)

abbrev pub decreases-up : goal.decreases-up
decreases-up l = l.at
