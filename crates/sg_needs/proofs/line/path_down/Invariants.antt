-- The path so far.
use Rattle.std.proofs.Common.{◌≡◌, flat_map, map}
use Rattle.sg_facts.specs.Inside.Rows.{step_to}
use Rattle.sg_facts.specs.Track.{row_at}
use Rattle.sg_needs.proofs.line.path_down.Given as goal

abbrev pub invariant-ids : goal.invariant-ids
invariant-ids l = l.path ≡ flat_map (λ a. step_to (row_at l.rows.rows a)) (map (λ b. b.now) l.yielded)
