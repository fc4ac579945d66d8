-- What an error tells of a text that describes a service of its own.
use Rattle.std.specs.Prelude.{◌≡◌, Some}
use Rattle.sg_check.specs.sg_check_statements.sg_parse.declared.tree.Tree.{Tree}
use Rattle.sg_describe.specs.DescribedText.{described_of_text}
use Rattle.sg_safe.specs.Reasons.{IsReason, unsafe_in}
use Rattle.sg_safe.specs.declared.reason.Unsafe.{Unsafe}
use Rattle.sg_own.specs.declared.fault.OwnError.{OwnError}
use Rattle.sg_own.specs.declared.fault.OwnError.TheVariants.{NoMemory, Fault}
use Rattle.sg_own.specs.declared.fault.OwnFault.{OwnFault}
use Rattle.sg_own.specs.declared.fault.OwnKind.TheVariants.{Safety}
use Rattle.sg_own.specs.Faults.{IsOwnFault}

-- a fault tells what is first wrong, and, where the service can't be recovered, why
pub record IsToldFault (tree : Tree) (fault : OwnFault) : Type 0 where
  pub first : IsOwnFault tree fault.kind fault.at
  pub reason : elim fault.kind as (λ kind. Type 0) [
    | Safety kind ↦ (reason : Unsafe) × (fault.reason ≡ Some reason) × IsReason (described_of_text tree) (unsafe_in (described_of_text tree)) reason
    | _ ↦ Unit {0}
  ]

-- an error tells that, or that there is no memory
abbrev pub IsOwnError : Tree → OwnError → Type 0
IsOwnError tree NoMemory = Unit {0}
IsOwnError tree (Fault fault) = IsToldFault tree fault
