-- The row that an open file stands for.
use Rattle.std.specs.Prelude.{[], ◌∷◌}
use Rattle.sg_facts.specs.sg_base.declared.value.Value.TheVariants.{Word, Text}
use Rattle.sg_slots.specs.Slots.{Body}
use Rattle.sg_ramfs.specs.declared.open_file.OpenFile.{OpenFile}

-- made by tsplit, in the state that tsplit leaves, with its name and its place as fields
abbrev pub file_body : OpenFile → Body
file_body f = record { made = 1; creator = f.creator; parent = f.parent; state = 1; fields = Text f.name ∷ Word f.place ∷ [] }
