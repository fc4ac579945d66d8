-- The bytes so far were taken.
use Rattle.std.proofs.Common.{◌≡◌, drop}
use Rattle.sg_entries.specs.Inside.States.{EntryState, bytes}
use Rattle.sg_entries.specs.Inside.Reads.{read}
use Rattle.sg_entries.proofs.pieces.fixed.Given as goal

abbrev pub invariant-bytes : goal.invariant-bytes
invariant-bytes l = (k : EntryState) → read (bytes l.fn.wanted k) l.fn.line ≡ read (bytes (drop l.at l.fn.wanted) k) l.line
