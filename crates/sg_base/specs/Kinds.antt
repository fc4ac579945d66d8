-- Of which kind a record is.
use Rattle.sg_base.specs.declared.brief.GaveKind.{GaveKind}
use Rattle.sg_base.specs.declared.brief.GaveKind.TheVariants.{Replied, Blocks as KindBlocks, Stopped as KindStopped, NoMemory as KindNoMemory}
use Rattle.sg_base.specs.declared.brief.Gave.{Gave}
use Rattle.sg_base.specs.declared.brief.Gave.TheVariants.{Good, Refused, Blocks, Stopped, NoMemory}
use Rattle.sg_base.specs.declared.brief.RecordKind.{RecordKind}
use Rattle.sg_base.specs.declared.brief.RecordKind.TheVariants.{Own as OwnKind, Walk as WalkKind, Whole as WholeKind}
use Rattle.sg_base.specs.declared.brief.Why.{Why}
use Rattle.sg_base.specs.declared.brief.Why.TheVariants.{Own, Walk}
use Rattle.sg_base.specs.Records.{Record, InBrief, Whole}

-- the kind of what a call gave
abbrev pub gave_kind : Gave → GaveKind
gave_kind (Good desc) = Replied
gave_kind (Refused code) = Replied
gave_kind Blocks = KindBlocks
gave_kind Stopped = KindStopped
gave_kind NoMemory = KindNoMemory

-- the kind of a call in brief, by why it was made and the kind of what it gave
abbrev pub brief_kind : Why → GaveKind → RecordKind
brief_kind Own gave = OwnKind gave
brief_kind (Walk id k turn) gave = WalkKind gave

-- the kind of a record
abbrev pub kind_of : {W : Type 0} → Record W → RecordKind
kind_of (InBrief brief args words) = brief_kind brief.why (gave_kind brief.gave)
kind_of (Whole whole) = WholeKind
