-- Which replies fit the room that is taken ahead for one.
use Rattle.std.specs.Prelude.{◌≤◌, length}
use Rattle.sg_base.specs.declared.reply.Reply.{Reply}
use Rattle.sg_base.specs.declared.reply.Reply.TheVariants.{Ok, Refused}

-- at most 4 words and 256 bytes
abbrev pub FitsReplyRoom : Reply → Type 0
FitsReplyRoom (Ok good) = (length good.words ≤ 4) × (length good.bytes ≤ 256)
FitsReplyRoom (Refused code) = Unit {0}
