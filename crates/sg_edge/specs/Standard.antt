-- What contracts see of a source or a sink over std's reader or writer.
use Rattle.std.specs.Prelude.{ℕ}

-- the reader or writer, and how often it failed
pub record Over (X : Type 0) : Type 0 where
  pub inner : X
  pub faults : ℕ
