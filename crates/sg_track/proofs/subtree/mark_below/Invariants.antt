-- The rows stay, and it was told of the first ones.
use Rattle.std.proofs.Common.{◌≡◌, ℕ, ◌<◌, length}
use Rattle.std.specs.Map.{values_of}
use Rattle.indexmap.specs.IndexMap.{spare}
use Rattle.sg_track.specs.Kept.{AreKeyed, Counts, IsTold, rows_in}
use Rattle.sg_track.proofs.subtree.mark_below.Given as goal

abbrev pub invariant-rows : goal.invariant-rows
invariant-rows l = record {
  spare : spare l.kept ≡ spare l.initial.kept;
  len : length l.kept.entries ≡ length l.initial.kept.entries;
  keyed : AreKeyed l.kept.entries;
  rows : rows_in l.kept.entries ≡ rows_in l.initial.kept.entries;
  counts : (number : ℕ → ℕ) → Counts number (values_of l.initial.kept.entries) → Counts number (values_of l.kept.entries);
  told : (k : ℕ) → k < l.at → IsTold l.id (values_of l.kept.entries) k;
}
