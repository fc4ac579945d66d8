-- So many arguments were read, and they are no more than the bytes that were.
use Rattle.std.proofs.Common.{◌≡◌, ◌+◌, ◌≤◌, ◌^◌, List, length}
use Rattle.sg_entries.specs.declared.tree.WrittenArg.{WrittenArg}
use Rattle.sg_entries.specs.Inside.States.{EntryState, bracketed, listed}
use Rattle.sg_entries.specs.Inside.Reads.{read}
use Rattle.sg_entries.proofs.call.count_bracketed.Given as goal

abbrev pub invariant-commas : goal.invariant-commas
invariant-commas l = record {
  few : l.count + length l.line.rest ≤ 2 ^ 63;
  counted : (args : List WrittenArg) × (l.count ≡ length args)
      × ((k : List WrittenArg → EntryState) → read (bracketed k) l.fn.line ≡ read (listed args k) l.line);
}

abbrev pub decreases-commas : goal.decreases-commas
decreases-commas l = length l.line.rest
