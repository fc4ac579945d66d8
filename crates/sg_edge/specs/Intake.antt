-- What reading a source to its end takes from it.
use Rattle.std.specs.Prelude.{ℕ, ◌+◌, ◌≤◌, List, length}
use Rattle.std.specs.declared.option.Option.{Option}
use Rattle.std.specs.declared.result.Result.{Result}
use Rattle.std.specs.declared.result.Result.TheVariants.{Ok, Err}
use Rattle.std.specs.Io.KnownBytes.{Consumes, IsAtEnd}
use Rattle.sg_edge.specs.Edge.{ConsumesAtMost, ConsumesJust}
use Rattle.sg_edge.specs.declared.source.Intake.{Intake}
use Rattle.sg_edge.specs.declared.source.Intake.TheVariants.{Whole, TooLong}
use Rattle.sg_edge.specs.declared.source.ReadError.{ReadError}
use Rattle.sg_edge.specs.declared.source.ReadError.TheVariants.{NoMemory, Failed}

-- all bytes and the end, at most the limit; or one byte more than the limit; or, where memory is wanted or a read
-- failed, no more than the limit
abbrev pub TakesIn : ℕ → Option (List ℕ) → Option (List ℕ) → Result Intake ReadError → Type 0
TakesIn limit old new (Ok (Whole bytes)) = (length bytes ≤ limit) × Consumes old new bytes × IsAtEnd new
TakesIn limit old new (Ok TooLong) = ConsumesJust (limit + 1) old new
TakesIn limit old new (Err NoMemory) = ConsumesAtMost limit old new
TakesIn limit old new (Err Failed) = ConsumesAtMost limit old new
