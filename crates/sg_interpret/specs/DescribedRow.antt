-- The row that an entry of a described service stands for.
use Rattle.std.specs.Prelude.{length, map, take}
use Rattle.sg_described.specs.sg_facts.sg_base.declared.value.Value.TheVariants.{Word}
use Rattle.sg_described.specs.sg_slots.Slots.{Body}
use Rattle.sg_described.specs.Described.{Described}
use Rattle.sg_interpret.specs.declared.entry.DescribedEntry.{DescribedEntry}

-- without a parent; it has as many fields as the service
abbrev pub described_body : Described → DescribedEntry → Body
described_body d e = record { made = e.made; creator = e.creator; parent = 0; state = e.state; fields = map Word (take (length d.most) e.fields) }
