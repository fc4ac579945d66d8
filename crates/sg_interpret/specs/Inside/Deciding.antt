-- What is done with a call that was answered.
use Rattle.std.specs.Prelude.{Bool, if◌then◌else◌}
use Rattle.sg_described.specs.sg_facts.sg_base.declared.call.Call.{Call}
use Rattle.sg_described.specs.sg_slots.declared.decision.Decision.{Decision}
use Rattle.sg_described.specs.sg_slots.declared.decision.Decision.TheVariants.{Refuse, Block, Make, Set, Remove}
use Rattle.sg_interpret.specs.declared.answer.Answer.{Answer}
use Rattle.sg_interpret.specs.declared.answer.Answer.TheVariants.{Refused, Waits, Done}
use Rattle.sg_interpret.specs.declared.entry.DescribedEntry.{DescribedEntry}

-- one that makes a descriptor
abbrev pub on_making : Call → Answer → Decision DescribedEntry
on_making call (Refused code) = Refuse code
on_making call Waits = Block
on_making call (Done left) = Make (record { made = call.fun; creator = call.client; state = left.state; fields = left.fields }) left.word

-- one on a descriptor, which ends it or doesn't
abbrev pub on_entry : DescribedEntry → Bool → Answer → Decision DescribedEntry
on_entry entry ends (Refused code) = Refuse code
on_entry entry ends Waits = Block
on_entry entry ends (Done left) = if ends then Remove else Set (record { made = entry.made; creator = entry.creator; state = left.state; fields = left.fields }) left.word
