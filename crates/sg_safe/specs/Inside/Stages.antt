-- How the first reason is found, stage by stage.
use Rattle.std.specs.Prelude.{◌≡◌, None, Some}
use Rattle.std.specs.declared.option.Option.{Option}
use Rattle.sg_known.specs.sg_described.Described.{Described}
use Rattle.sg_safe.specs.declared.reason.Unsafe.{Unsafe}
use Rattle.sg_safe.specs.Reasons.{IsReason}

-- what is found is this reason, or None where there is none
abbrev pub IsFound : Described → Option Unsafe → Option Unsafe → Type 0
IsFound d from None = from ≡ None
IsFound d from (Some reason) = IsReason d from reason
