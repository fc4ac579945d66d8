-- The bytes so far begin a code.
use Rattle.std.proofs.Common.{◌≡◌, ◌+◌, [], take, drop}
use Rattle.sg_facts.specs.sg_base.declared.reply.Code.{Code}
use Rattle.sg_entries.specs.declared.tree.WrittenEntry.{WrittenEntry}
use Rattle.sg_entries.specs.Inside.States.{coded}
use Rattle.sg_entries.specs.Inside.Reads.{read, read_from}
use Rattle.sg_entries.proofs.code.code.Given as goal

abbrev pub invariant-bytes : goal.invariant-bytes
invariant-bytes l =
    (k : Code → WrittenEntry) → read (coded [] k) l.fn.line ≡ read_from (coded (take l.at l.word) k) (l.fn.line.at + l.at) (drop l.at l.word)
