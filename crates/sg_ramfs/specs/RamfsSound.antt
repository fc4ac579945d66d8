-- The objects that the file service can come to.
use Rattle.std.specs.Prelude.{ℕ, ◌≡◌, ◌≤◌, false, List, length}
use Rattle.std.specs.List.{AllByRecursion}
use Rattle.sg_facts.specs.declared.row.Row.{Row}
use Rattle.sg_facts.specs.Track.{word_of, field_at}
use Rattle.sg_facts.specs.Object.{Object, first_text, path_of}
use Rattle.sg_facts.specs.Sound.{IsSound, AreRows}
use Rattle.sg_ramfs.specs.RamfsFacts.{ramfs_facts}
use Rattle.sg_facts.specs.Limits.{most_file, most_path}
use Rattle.sg_ramfs.specs.RamfsTable.{is_bad_name}

-- a descriptor among live rows: its name is good, its path no longer than paths may be, its place within what files may
-- have
pub record IsPlaced (rows : List Row) (r : Row) : Type 0 where
  pub name : is_bad_name (first_text r.fields) ≡ false
  pub path : length (path_of rows r.id) ≤ most_path
  pub offset : word_of (field_at r.fields 1) ≤ most_file

-- a file, as a pair of path and bytes: neither is too long
abbrev pub IsFile : List ℕ × List ℕ → Type 0
IsFile f = (length f.0 ≤ most_path) × (length f.1 ≤ most_file)

-- a sound object of the file service
pub record IsRamfsSound (o : Object) : Type 0 where
  pub general : IsSound ramfs_facts o
  pub placed : AreRows (IsPlaced o.rows) 0 o.given o.rows
  pub files : AllByRecursion IsFile o.files
