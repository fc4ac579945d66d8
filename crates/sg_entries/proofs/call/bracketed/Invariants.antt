-- The arguments so far were read.
use Rattle.std.proofs.Common.{◌≡◌, List, length}
use Rattle.sg_entries.specs.declared.tree.WrittenArg.{WrittenArg}
use Rattle.sg_entries.specs.Inside.States.{EntryState, bracketed, listed}
use Rattle.sg_entries.specs.Inside.Reads.{read}
use Rattle.sg_entries.proofs.call.bracketed.Given as goal

abbrev pub invariant-commas : goal.invariant-commas
invariant-commas l = (k : List WrittenArg → EntryState) → read (bracketed k) l.fn.line ≡ read (listed l.args k) l.line

abbrev pub decreases-commas : goal.decreases-commas
decreases-commas l = length l.line.rest
