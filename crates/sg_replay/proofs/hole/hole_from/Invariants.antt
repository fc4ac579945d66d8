-- The rows so far are whole.
use Rattle.std.proofs.Common.{◌≡◌, ℕ, true, take}
use Rattle.sg_facts.specs.Track.{is_live}
use Rattle.sg_name.specs.Names.{named_at}
use Rattle.sg_replay.specs.Missing.{is_whole}
use Rattle.sg_replay.proofs.hole.hole_from.Given as goal

abbrev pub invariant-places : goal.invariant-places
invariant-places l = (x : ℕ) → is_live (take l.place l.rows.rows) x ≡ true → is_whole (named_at l.names.known x) ≡ true
