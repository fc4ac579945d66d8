-- What contracts see of a source and a sink in memory, and what each call makes of it.
use Rattle.std.specs.Prelude.{ℕ, ◌≡◌, ◌+◌, ◌==◌, Bool, List, ◌++◌, min, length, take, drop}
use Rattle.std.specs.List.{list_any}
use Rattle.sg_edge.specs.Edge.{one_more}

-- how calls go: at most so many bytes each, the numbers of those that fail, how many were made, and how many failed
pub record Calls : Type 0 where
  pub most : ℕ
  pub failing : List ℕ
  pub made : ℕ
  pub faults : ℕ

-- before the first call
abbrev pub fresh_calls : ℕ → List ℕ → Calls
fresh_calls most failing = record { most = most; failing = failing; made = 0; faults = 0 }

-- whether the next call is one of those that fail
abbrev pub next_fails : Calls → Bool
next_fails calls = list_any (λ number. number == one_more calls.made) calls.failing

-- after a call that gave bytes
abbrev pub passed : Calls → Calls
passed calls = record calls { made = one_more calls.made }

-- after a call that failed
abbrev pub failed : Calls → Calls
failed calls = record calls { made = one_more calls.made; faults = one_more calls.faults }

-- the bytes that a source still has, and its calls
pub record Reads : Type 0 where
  pub left : List ℕ
  pub calls : Calls

-- the bytes that a sink has, and its calls
pub record Writes : Type 0 where
  pub written : List ℕ
  pub calls : Calls

-- how many bytes the next call moves, of so many, where it doesn't fail
abbrev pub count_moved : Calls → ℕ → ℕ → ℕ
count_moved calls room bytes = min calls.most (min room bytes)

-- a read gave n bytes: as many as it may, has and has room for, from the front of what is left
pub record ReadsFront (old : Reads) (buf_old : List ℕ) (n : ℕ) (new : Reads) (buf_new : List ℕ) : Type 0 where
  pub count : n ≡ count_moved old.calls (length buf_old) (length old.left)
  pub given : buf_new ≡ take n old.left ++ drop n buf_old
  pub after : new ≡ record { left = drop n old.left; calls = passed old.calls }

-- a write took n bytes: as many as it may, from the front of the piece
pub record WritesFront (old : Writes) (piece : List ℕ) (n : ℕ) (new : Writes) : Type 0 where
  pub count : n ≡ min old.calls.most (length piece)
  pub after : new ≡ record { written = old.written ++ take n piece; calls = passed old.calls }
