-- What the checker answers.
use Rattle.std.specs.Prelude.{ℕ, ◌≡◌, ◌⊎◌}
use Rattle.sg_check_statements.specs.declared.fault.CheckError.{CheckError}
use Rattle.sg_check_statements.specs.declared.fault.CheckError.TheVariants.{NoMemory, Fault}
use Rattle.sg_check_statements.specs.declared.fault.CheckKind.{CheckKind}

-- an answer is this fault, or there is no memory
abbrev pub IsThisFault : CheckKind → ℕ → CheckError → Type 0
IsThisFault kind at error = (error ≡ Fault (record { kind = kind; at = at })) ⊎ (error ≡ NoMemory)
