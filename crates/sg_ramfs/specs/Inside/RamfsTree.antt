-- The open files of the file service, one below another.
use Rattle.std.specs.Prelude.{ℕ, ◌≡◌, ◌<◌, ◌≤◌, false, List, ◌∷◌, ◌++◌, length, IfSome}
use Rattle.sg_facts.specs.declared.row.Row.{Row}
use Rattle.sg_facts.specs.Limits.{most_path}
use Rattle.sg_facts.specs.Object.{path_of}
use Rattle.sg_facts.specs.Sound.{AreRows}
use Rattle.sg_facts.specs.Inside.Rows.{has_child}
use Rattle.sg_slots.specs.declared.decision.Decision.{Decision}
use Rattle.sg_slots.specs.declared.decision.Decision.TheVariants.{Make, Enlist, Set, Remove}
use Rattle.sg_slots.specs.Slots.{AreIds, Held, entry_at, rows_of}
use Rattle.sg_ramfs.specs.declared.open_file.OpenFile.{OpenFile}
use Rattle.sg_ramfs.specs.RamfsRow.{file_body}

-- a row among others: its parent has a smaller id, and its path is no longer than paths may be
pub record IsNested (rows : List Row) (r : Row) : Type 0 where
  pub below : r.parent < r.id
  pub path : length (path_of rows r.id) ≤ most_path

-- the rows of open files
abbrev pub tree_rows : Held OpenFile → List Row
tree_rows held = rows_of file_body held.entries

-- open files under ascending ids, each below one of a smaller id or below none, with a path that isn't too long
pub record IsTree (held : Held OpenFile) : Type 0 where
  pub ids : AreIds 0 held.given held.entries
  pub nested : AreRows (IsNested (tree_rows held)) 0 held.given (tree_rows held)

-- a decision on an id leaves a tree: a new open file stands below an id that was given or below none, and has a path that
-- isn't too long; one that is set keeps its parent and its name; one that ends has nothing below it
abbrev pub FitsTree : Held OpenFile → ℕ → Decision OpenFile → Type 0
FitsTree held id (Make f word) = (f.parent ≤ held.given) × (length (path_of (tree_rows held) f.parent ++ 47 ∷ f.name) ≤ most_path)
FitsTree held id (Enlist f word) = (f.parent ≤ held.given) × (length (path_of (tree_rows held) f.parent ++ 47 ∷ f.name) ≤ most_path)
FitsTree held id (Set f word) = IfSome (entry_at held.entries id) (λ old. (f.parent ≡ old.parent) × (f.name ≡ old.name))
FitsTree held id Remove = has_child (tree_rows held) id ≡ false
FitsTree held id _ = Unit {0}
