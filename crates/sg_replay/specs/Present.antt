-- The files that are present in a boot.
use Rattle.std.specs.Prelude.{ℕ, Bool, false, List, None, Some, IsSome, Vec, find, map}
use Rattle.std.specs.Str.{bytes_eq}
use Rattle.std.specs.declared.alloc.Global.{Global}
use Rattle.std.specs.declared.option.Option.{Option}

-- a mark for each path that has one
abbrev pub Marks : Type 0
Marks = List (List ℕ × Bool)

-- the marks by the bytes of the paths
abbrev pub marks_of : List (Vec ℕ Global × Bool) → Marks
marks_of entries = map (λ e. (e.0.items, e.1)) entries

-- the mark of a path, with the path
abbrev pub mark_at : Marks → List ℕ → Option (List ℕ × Bool)
mark_at marks key = find (λ m. bytes_eq key m.0) marks

-- a path has a mark
abbrev pub HasMark : Marks → List ℕ → Type 0
HasMark marks key = IsSome (mark_at marks key)

-- a mark that was found; false where none was
abbrev pub mark_of : Option (List ℕ × Bool) → Bool
mark_of None = false
mark_of (Some m) = m.1

-- whether the file of a path is present
abbrev pub is_present : Marks → List ℕ → Bool
is_present marks key = mark_of (mark_at marks key)
