-- What is noted in room that was taken ahead.
use Rattle.std.specs.Prelude.{◌≤◌, None, Some, length}
use Rattle.std.specs.declared.option.Option.{Option}
use Rattle.sg_facts.specs.sg_base.Reply.{FitsReplyRoom}
use Rattle.sg_facts.specs.declared.outcome.Outcome.{Outcome}
use Rattle.sg_facts.specs.declared.outcome.Outcome.TheVariants.{Replied, Blocks, Stopped, NoMemory}
use Rattle.sg_facts.specs.declared.outcome.Patch.{Patch}
use Rattle.sg_facts.specs.Limits.{most_path, most_written}

-- a patch, if there is one, has a key and bytes of at most 256 bytes each
abbrev pub FitsPatchRoom : Option Patch → Type 0
FitsPatchRoom None = Unit {0}
FitsPatchRoom (Some p) = (length p.key ≤ most_path) × (length p.bytes ≤ most_written)

-- an outcome fits the room that is taken ahead for one item
abbrev pub FitsItemRoom : Outcome → Type 0
FitsItemRoom (Replied reply patch) = FitsReplyRoom reply × FitsPatchRoom patch
FitsItemRoom Blocks = Unit {0}
FitsItemRoom Stopped = Unit {0}
FitsItemRoom NoMemory = Unit {0}
