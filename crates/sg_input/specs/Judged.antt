-- A history that may be judged.
use Rattle.std.specs.Prelude.{◌≤◌, List, length}
use Rattle.sg_entries.specs.sg_report.sg_hist.Clients.{MayBeMade}
use Rattle.sg_facts.specs.Interface.{Declared}
use Rattle.sg_facts.specs.Limits.{most_script_calls}
use Rattle.sg_facts.specs.declared.entry.Entry.{Entry}
use Rattle.sg_facts.specs.sg_base.Lists.{Each}
use Rattle.sg_facts.specs.sg_base.Room.{Roomy}
use Rattle.sg_input.specs.declared.read.Read.{Read}
use Rattle.sg_input.specs.declared.read.Read.TheVariants.{Ready, Refused}

-- each call of the history is one that a client may make, and there are no more than a script may have
abbrev pub MayBeJudged : Read (Declared × Roomy Entry) → Type 0
MayBeJudged (Refused line) = Unit {0}
MayBeJudged (Ready (i, history)) = Each (λ e. MayBeMade i e.call) history.items × (length history.items ≤ most_script_calls)

-- the same of a history under an interface
abbrev pub MayBeJudgedUnder : Declared → Read (Roomy Entry) → Type 0
MayBeJudgedUnder i (Refused line) = Unit {0}
MayBeJudgedUnder i (Ready history) = MayBeJudged (Ready (i, history))

-- a history, without its room
abbrev pub items_in : Read (Roomy Entry) → Read (List Entry)
items_in (Refused line) = Refused line
items_in (Ready history) = Ready history.items
