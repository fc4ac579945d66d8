-- The entry lines of what is left are those of the text.
use Rattle.std.proofs.Common.{◌≡◌, length}
use Rattle.sg_entries.specs.Inside.Cutting.{lines_left}
use Rattle.sg_entries.specs.Lines.{entry_lines, entry_lines_of}
use Rattle.sg_entries.proofs.lines.EntryLines.new.Given as goal

abbrev pub invariant-lines : goal.invariant-lines
invariant-lines l = entry_lines (lines_left l.rest) ≡ entry_lines_of l.text

abbrev pub decreases-lines : goal.decreases-lines
decreases-lines l = length (lines_left l.rest)
