-- The files of the file service, and their index by path.
use Rattle.std.specs.Prelude.{ℕ, suc, ◌≡◌, if◌then◌else◌, List, [], ◌∷◌, None, Some, length, map}
use Rattle.std.specs.Option.{option_map}
use Rattle.std.specs.Str.{bytes_eq}
use Rattle.std.specs.declared.option.Option.{Option}
use Rattle.std.specs.BTreeMap.{BTreeMap, get}
use Rattle.std.specs.Cmp.Lexicographic.{slice_cmp}
use Rattle.std.specs.Ordering.{nat_cmp}
use Rattle.sg_ramfs.specs.declared.files.OpenFiles.{OpenFiles}

-- the files, as pairs of path and bytes
abbrev pub files_of : OpenFiles → List (List ℕ × List ℕ)
files_of files = map (λ f. (f.path, f.bytes.items)) files.list.items

-- the place of the file of a path among files, from 0
abbrev pub place_at : List (List ℕ × List ℕ) → List ℕ → Option ℕ
place_at [] path = None
place_at (f ∷ files) path = if bytes_eq f.0 path then Some 0 else option_map suc (place_at files path)

-- what an index has for a path
abbrev pub index_at : BTreeMap (List ℕ) ℕ → List ℕ → Option ℕ
index_at index path = get (slice_cmp nat_cmp) index path

-- an index has the place of each file, and no other paths
abbrev pub AreFilesIndexed : List (List ℕ × List ℕ) → BTreeMap (List ℕ) ℕ → Type 0
AreFilesIndexed files index = (path : List ℕ) → index_at index path ≡ place_at files path

-- it has the place of one file more, which is to come last
abbrev pub IsPrepared : List (List ℕ × List ℕ) → BTreeMap (List ℕ) ℕ → List ℕ → Type 0
IsPrepared files index new = (path : List ℕ) → index_at index path ≡ (if bytes_eq new path then Some (length files) else place_at files path)
