-- What a journal keeps.
use Rattle.std.specs.Prelude.{ℕ, Bool, true, false, List, [], ◌∷◌, min}
use Rattle.sg_facts.specs.sg_base.Room.{Roomy}
use Rattle.sg_facts.specs.declared.trace.BootLog.{BootLog}
use Rattle.sg_facts.specs.Trace.{Run}

-- what contracts see of a journal: what was done, and for how many items and boots more there is room
pub record Journaled : Type 0 where
  pub run : Run
  pub room : ℕ

-- how many items more the last boot has places for
abbrev pub last_room : List BootLog → ℕ
last_room [] = 0
last_room (b ∷ []) = b.items.room
last_room (b ∷ c ∷ boots) = last_room (c ∷ boots)

-- the places that there are for boots and for items of the last boot, where there is room for what an item holds
abbrev pub room_of : Bool → Roomy BootLog → ℕ
room_of false boots = 0
room_of true boots = min boots.room (last_room boots.items)
