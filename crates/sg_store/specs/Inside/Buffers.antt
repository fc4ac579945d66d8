-- A buffer that grows.
use Rattle.std.specs.Prelude.{ℕ, ◌≡◌, ◌+◌, List, ◌++◌, length}
use Rattle.sg_store.specs.Spans.{buffer_part}

-- the old bytes stand at the front of the new
abbrev pub IsFrontOf : List ℕ → List ℕ → Type 0
IsFrontOf old new = (more : List ℕ) × (new ≡ old ++ more)

-- after the old bytes is so much room, which begins with a copy of some of them
pub record HasCopy (old : List ℕ) (from len room : ℕ) (new : List ℕ) : Type 0 where
  pub copy : buffer_part new (length old) len ≡ buffer_part old from len
  pub end : length new ≡ length old + room
