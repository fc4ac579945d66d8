-- How far a text is found to be good.
use Rattle.std.specs.Prelude.{ℕ, ◌<◌, List}
use Rattle.sg_facts.specs.Facts.{Facts}
use Rattle.sg_parse.specs.declared.tree.Tree.{Tree}
use Rattle.sg_check_statements.specs.declared.fault.CheckError.{CheckError}
use Rattle.sg_check_statements.specs.declared.fault.CheckError.TheVariants.{NoMemory, Fault}
use Rattle.sg_check_statements.specs.declared.fault.CheckKind.{CheckKind}
use Rattle.sg_check_statements.specs.Faults.{FirstOf, IsFault, kind_rank}
use Rattle.sg_check_statements.specs.Inside.Pieces.{IsOf}

-- a text is of this service, and nothing is wrong with it of the first kinds, so many of them
pub record IsClear (services : List Facts) (tree : Tree) (facts : Facts) (kinds : ℕ) : Type 0 where
  pub service : IsOf services tree facts
  pub none : (kind : CheckKind) (place : ℕ) → kind_rank kind < kinds → FirstOf services tree kind place → ⊥

-- an error tells what is first wrong with a text, or that there is no memory
abbrev pub IsFirstFault : List Facts → Tree → CheckError → Type 0
IsFirstFault services tree NoMemory = Unit {0}
IsFirstFault services tree (Fault fault) = IsFault services tree fault.kind fault.at
