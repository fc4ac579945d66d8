-- Which room is enough for one reply, and which reply takes none of it.
use Rattle.std.specs.Prelude.{◌≡◌, ◌≤◌, []}
use Rattle.sg_base.specs.declared.reply.Reply.{Reply}
use Rattle.sg_base.specs.declared.reply.Reply.TheVariants.{Ok, Refused}
use Rattle.sg_base.specs.declared.spare.SpareReply.{SpareReply}

-- for 4 words and 256 bytes
abbrev pub HasReplyRoom : SpareReply → Type 0
HasReplyRoom spare = (4 ≤ spare.words) × (256 ≤ spare.bytes)

-- it has neither words nor bytes
abbrev pub TakesNoRoom : Reply → Type 0
TakesNoRoom (Ok good) = (good.words ≡ []) × (good.bytes ≡ [])
TakesNoRoom (Refused code) = Unit {0}
