-- Plans that can be carried out.
use Rattle.std.specs.Prelude.{ℕ, ◌≤◌, List, None, length}
use Rattle.sg_slots.specs.declared.decision.Decision.TheVariants.{Set}
use Rattle.sg_slots.specs.Slots.{Held}
use Rattle.sg_facts.specs.Object.{file_at}
use Rattle.sg_ramfs.specs.declared.open_file.OpenFile.{OpenFile}
use Rattle.sg_ramfs.specs.declared.plan.WritePlan.{WritePlan}
use Rattle.sg_ramfs.specs.declared.plan.WritePlan.TheVariants.{Refuse, Move, Put}
use Rattle.sg_ramfs.specs.Inside.RamfsTree.{FitsTree}

-- a plan to write sets a descriptor that keeps its parent and its name, and a patch begins within its file
abbrev pub FitsWrite : Held OpenFile → List (List ℕ × List ℕ) → ℕ → WritePlan → Type 0
FitsWrite held files id (Refuse code) = Unit {0}
FitsWrite held files id (Move f) = FitsTree held id (Set f None)
FitsWrite held files id (Put f p) = FitsTree held id (Set f None) × (p.from ≤ length (file_at files p.key))
