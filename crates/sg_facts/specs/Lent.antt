-- What a lent item stands for.
use Rattle.std.specs.Option.{option_copied}
use Rattle.sg_facts.specs.declared.items.Asking.{Asking}
use Rattle.sg_facts.specs.declared.lent.LentItem.{LentItem}
use Rattle.sg_facts.specs.declared.lent.LentOutcome.{LentOutcome}
use Rattle.sg_facts.specs.declared.lent.LentOutcome.TheVariants.{Replied as RepliedLent, Blocks as BlocksLent, Stopped as StoppedLent, NoMemory as NoMemoryLent}
use Rattle.sg_facts.specs.declared.lent.LentTag.{LentTag}
use Rattle.sg_facts.specs.declared.lent.LentTag.TheVariants.{Walk as WalkLent, Load as LoadLent, Client as ClientLent}
use Rattle.sg_facts.specs.declared.outcome.Outcome.{Outcome}
use Rattle.sg_facts.specs.declared.outcome.Outcome.TheVariants.{Replied, Blocks, Stopped, NoMemory}
use Rattle.sg_facts.specs.declared.trace.Item.{Item}
use Rattle.sg_facts.specs.declared.trace.Tag.{Tag}
use Rattle.sg_facts.specs.declared.trace.Tag.TheVariants.{Walk, Load, Client}
use Rattle.sg_base.specs.Lent.{call_in, reply_in}

-- the tag
abbrev pub tag_in : LentTag → Tag
tag_in (WalkLent id k client) = Walk id k client
tag_in (LoadLent key client) = Load key.now client
tag_in (ClientLent client seq) = Client client seq

-- the outcome
abbrev pub outcome_in : LentOutcome → Outcome
outcome_in (RepliedLent reply patch) = Replied (reply_in reply) (option_copied patch)
outcome_in BlocksLent = Blocks
outcome_in StoppedLent = Stopped
outcome_in NoMemoryLent = NoMemory

-- the item
abbrev pub item_in : LentItem → Item
item_in item = record { tag = tag_in item.tag; shown = call_in item.shown; real = item.real; points = item.points; outcome = outcome_in item.outcome }

-- the item of an asking by its parts
abbrev pub item_asked : Asking → Item
item_asked asking = record { tag = asking.tag.now; shown = asking.shown.now; real = asking.real; points = asking.points; outcome = asking.outcome.now }
