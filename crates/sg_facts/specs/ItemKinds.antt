-- Of which kind an item is.
use Rattle.std.specs.Prelude.{Bool, true, false}
use Rattle.sg_facts.specs.declared.kinds.ItemKind.{ItemKind}
use Rattle.sg_facts.specs.declared.kinds.TagKind.{TagKind}
use Rattle.sg_facts.specs.declared.kinds.TagKind.TheVariants.{Walk as WalkKind, Load as LoadKind, Client as ClientKind}
use Rattle.sg_facts.specs.declared.outcome.Outcome.{Outcome}
use Rattle.sg_facts.specs.declared.outcome.Outcome.TheVariants.{Replied, Blocks, Stopped, NoMemory}
use Rattle.sg_facts.specs.declared.trace.Item.{Item}
use Rattle.sg_facts.specs.declared.trace.Tag.{Tag}
use Rattle.sg_facts.specs.declared.trace.Tag.TheVariants.{Walk, Load, Client}
use Rattle.sg_base.specs.declared.brief.GaveKind.{GaveKind}
use Rattle.sg_base.specs.declared.brief.GaveKind.TheVariants.{Replied as RepliedKind, Blocks as BlocksKind, Stopped as StoppedKind, NoMemory as NoMemoryKind}

-- the kind of a tag
abbrev pub tag_kind : Tag → TagKind
tag_kind (Walk id k client) = WalkKind
tag_kind (Load key client) = LoadKind
tag_kind (Client client seq) = ClientKind

-- the kind of an outcome
abbrev pub outcome_kind : Outcome → GaveKind
outcome_kind (Replied reply patch) = RepliedKind
outcome_kind Blocks = BlocksKind
outcome_kind Stopped = StoppedKind
outcome_kind NoMemory = NoMemoryKind

-- the kind of an item
abbrev pub item_kind : Item → ItemKind
item_kind item = record { tag = tag_kind item.tag; gave = outcome_kind item.outcome }

-- whether what was given is a reply
abbrev pub is_reply_kind : GaveKind → Bool
is_reply_kind RepliedKind = true
is_reply_kind BlocksKind = false
is_reply_kind StoppedKind = false
is_reply_kind NoMemoryKind = false

-- whether the kind is that of a call of a walk that the service replied to
abbrev pub is_replay_kind : ItemKind → Bool
is_replay_kind kind = elim kind.tag [ WalkKind ↦ is_reply_kind kind.gave | _ ↦ false ]
