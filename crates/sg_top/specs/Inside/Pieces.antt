-- The parts of what a command makes, by themselves.
use Rattle.std.specs.Prelude.{ℕ, ◌≡◌, ◌≤◌, ◌⊎◌, List, length}
use Rattle.sg_judge.specs.sg_input.declared.read.Read.TheVariants.{Refused as refused}
use Rattle.sg_judge.specs.sg_input.Inputs.{IsInputOf, IsRunInputOf}
use Rattle.sg_judge.specs.sg_input.MultiInputs.{IsMultiInputOf}
use Rattle.sg_judge.specs.OwnExplained.{IsExplainedAny}
use Rattle.sg_judge.specs.Said.{IsChecked, IsRenewed, IsTabled}
use Rattle.sg_verify.specs.declared.verdict.Verdict.{Verdict}
use Rattle.sg_verify.specs.declared.verdict.Verdict.TheVariants.{Legal}
use Rattle.sg_top.specs.Answer.{IsExploredAs, IsJudgedAs, IsRefusal, judging, services, most_bytes}
use Rattle.sg_top.specs.declared.command.Command.{Command}
use Rattle.sg_top.specs.declared.command.Command.TheVariants.{Play, Run, Compile, Upgrade, Explain, Explore, Verify, Multi, Load}
use Rattle.sg_top.specs.declared.status.Status.{Status}
use Rattle.sg_top.specs.declared.status.Status.TheVariants.{Done, Refused, ReadFault, WriteFault, NoMemory, Illegal}

-- the status of what is said of a history
abbrev pub verdict_status : Verdict → Status
verdict_status said = elim said as (λ v. Status) [ Legal ↦ Done | _ ↦ Illegal ]

-- the output of a verification, and its status: what is said of a history, or the line of an input that is refused
abbrev pub IsVerified : List ℕ → Status → List ℕ → Type 0
IsVerified bytes status output = IsJudgedAs bytes status output ⊎ ((status ≡ Refused) × IsRunInputOf judging bytes (refused output))

-- the output of an exploration, and its status: what was found, or the line of an input that is refused
abbrev pub IsExploration : List ℕ → ℕ → Status → List ℕ → Type 0
IsExploration bytes most status output = IsExploredAs bytes most status output ⊎ ((status ≡ Refused) × IsInputOf judging bytes (refused output))

-- the line with which a command refuses bytes that aren't too many
abbrev pub IsRefusedAs : Command → List ℕ → List ℕ → Type 0
IsRefusedAs command bytes output = elim command as (λ c. Type 0) [
  | Play shows ↦ IsInputOf judging bytes (refused output)
  | Run trace ↦ IsInputOf judging bytes (refused output)
  | Compile ↦ IsTabled services bytes (refused output)
  | Upgrade ↦ IsRenewed services bytes (refused output)
  | Explain ↦ IsExplainedAny services bytes (refused output)
  | Explore most ↦ IsInputOf judging bytes (refused output)
  | Verify ↦ IsRunInputOf judging bytes (refused output)
  | Multi trace ↦ IsMultiInputOf judging bytes (refused output)
  | Load service number ↦ ⊥
  | _ ↦ IsChecked services bytes (refused output)
]

-- a status for bytes that a command may refuse: where it refuses them the status says so, or that there was a fault or no memory
abbrev pub SaysRefused : Command → Status → List ℕ → Type 0
SaysRefused command status bytes =
    (output : List ℕ) → IsRefusal command bytes output
    → (status ≡ Refused) ⊎ (status ≡ ReadFault) ⊎ (status ≡ WriteFault) ⊎ (status ≡ NoMemory)

-- bytes print a history that isn't legal, and a verification says so with this line
abbrev pub IsIllegal : Command → List ℕ → List ℕ → Type 0
IsIllegal command bytes output = (command ≡ Verify) × (length bytes ≤ most_bytes command) × IsJudgedAs bytes Illegal output

-- a status for bytes that may print a history which isn't legal: where they do the status says so, or that there was a fault or no memory
abbrev pub SaysIllegal : Command → Status → List ℕ → Type 0
SaysIllegal command status bytes =
    (output : List ℕ) → IsIllegal command bytes output
    → (status ≡ Illegal) ⊎ (status ≡ ReadFault) ⊎ (status ≡ WriteFault) ⊎ (status ≡ NoMemory)
