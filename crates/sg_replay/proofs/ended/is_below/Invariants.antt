-- Whether it is among the ancestors from the parent on.
use Rattle.std.proofs.Common.{◌≡◌, ◌≤◌, ◌-◌}
use Rattle.std.specs.Prelude.{◌==◌}
use Rattle.std.specs.List.{list_any}
use Rattle.sg_facts.specs.Track.{is_ancestor}
use Rattle.sg_needs.proofs.sg_track.Above.{up_from}
use Rattle.sg_replay.proofs.ended.is_below.Given as goal

abbrev pub invariant-up : goal.invariant-up
invariant-up l = record {
  way : list_any (λ a. a == l.above) (up_from l.rows.rows l.parent) ≡ is_ancestor l.rows.rows l.above l.id;
  lower : l.parent ≤ l.id - 1;
}

abbrev pub decreases-up : goal.decreases-up
decreases-up l = l.parent
