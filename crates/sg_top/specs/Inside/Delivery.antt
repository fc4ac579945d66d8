-- What a command's output says, and how an output is written.
use Rattle.std.specs.Prelude.{ℕ, ◌≡◌, ◌<◌, ◌⊎◌, List, length, take}
use Rattle.std.specs.Io.KnownBytes.{Appends}
use Rattle.sg_edge.specs.Edge.{Rose}
use Rattle.sg_judge.specs.sg_input.declared.read.Read.{Read}
use Rattle.sg_judge.specs.sg_input.declared.read.Read.TheVariants.{Ready as ready, Refused as refused}
use Rattle.sg_top.specs.declared.output.Ran.{Ran}
use Rattle.sg_top.specs.declared.output.Ran.TheVariants.{Nothing}
use Rattle.sg_top.specs.declared.status.Status.{Status}
use Rattle.sg_top.specs.declared.status.Status.TheVariants.{Done, Refused, WriteFault, NoMemory}
use Rattle.sg_top.specs.Answer.{Ends}

-- an output says this of a text, with the status that belongs to it
abbrev pub IsSaid : Read (List ℕ) → Status → List ℕ → Type 0
IsSaid (ready text) status output = (status ≡ Done) × (output ≡ text)
IsSaid (refused line) status output = (status ≡ Refused) × (output ≡ line)

-- an output was written whole, with the status that belongs to it, and no write failed; or a write failed, and what is written
-- is a proper prefix of the output
abbrev pub IsWritten : Ends → Ends → List ℕ → Status → Status → Type 0
IsWritten sink sink' output wanted status =
    ((status ≡ wanted) × Appends sink.told sink'.told output × (sink'.faults ≡ sink.faults))
    ⊎ ((status ≡ WriteFault) × Rose sink.faults sink'.faults × ((written : ℕ) × (written < length output) × Appends sink.told sink'.told (take written output)))

-- an output that is one of these was written, or there was no memory for it and nothing is written
abbrev pub IsDelivered : (Ran → Status → List ℕ → Type 0) → Ends → Ends → Status → Ran → Type 0
IsDelivered IsOne sink sink' status ran =
    ((output : List ℕ) × (wanted : Status) × IsOne ran wanted output × IsWritten sink sink' output wanted status)
    ⊎ ((status ≡ NoMemory) × (ran ≡ Nothing) × (sink' ≡ sink))
