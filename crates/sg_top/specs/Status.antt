-- The numbers of statuses, and the status of a program whose words can't be had.
use Rattle.std.specs.Prelude.{ℕ}
use Rattle.std.specs.declared.io.ErrorKind.{ErrorKind}
use Rattle.std.specs.declared.io.ErrorKind.TheVariants.{OutOfMemory}
use Rattle.sg_top.specs.declared.status.Status.{Status}
use Rattle.sg_top.specs.declared.status.Status.TheVariants.{Done, Waits, OtherWords, Refused, ReadFault, WriteFault, NoMemory, Illegal}

-- the number that a process ends with
abbrev pub status_number : Status → ℕ
status_number Done = 0
status_number OtherWords = 1
status_number Refused = 2
status_number Waits = 3
status_number ReadFault = 4
status_number WriteFault = 5
status_number NoMemory = 6
status_number Illegal = 7

-- the status where the words can't be had: of want of memory, or of anything else
abbrev pub status_without_words : ErrorKind → Status
status_without_words OutOfMemory = NoMemory
status_without_words _ = OtherWords
