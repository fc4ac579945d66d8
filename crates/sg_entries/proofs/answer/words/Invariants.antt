-- The words so far were read.
use Rattle.std.proofs.Common.{◌≡◌}
use Rattle.sg_entries.specs.declared.tree.WrittenAnswer.{WrittenAnswer}
use Rattle.sg_entries.specs.declared.tree.WrittenEntry.{WrittenEntry}
use Rattle.sg_entries.specs.Inside.States.{words}
use Rattle.sg_entries.specs.Inside.Reads.{read}
use Rattle.sg_entries.proofs.answer.words.Given as goal

abbrev pub invariant-words : goal.invariant-words
invariant-words l = (k : WrittenAnswer → WrittenEntry) → read (words l.fn.left l.fn.desc l.fn.first k) l.fn.line ≡ read (words l.left l.fn.desc l.words k) l.line

abbrev pub decreases-words : goal.decreases-words
decreases-words l = l.left
