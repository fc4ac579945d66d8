-- What the file service holds.
use Rattle.std.specs.Prelude.{ℕ, List}
use Rattle.sg_facts.specs.Object.{Object}
use Rattle.sg_slots.specs.Slots.{Held}
use Rattle.sg_ramfs.specs.declared.open_file.OpenFile.{OpenFile}
use Rattle.sg_ramfs.specs.Inside.RamfsTree.{tree_rows}

-- open files, and files as pairs of path and bytes
pub record Served : Type 0 where
  pub tree : Held OpenFile
  pub files : List (List ℕ × List ℕ)

-- the open files as rows, the files, and the number of ids given
abbrev pub object_with : Held OpenFile → List (List ℕ × List ℕ) → Object
object_with tree files = record { rows = tree_rows tree; files = files; given = tree.given }

-- what the file service holds, as an object
abbrev pub ramfs_object : Served → Object
ramfs_object s = object_with s.tree s.files
