-- The order of what can be wrong with the entries of a text.
use Rattle.std.specs.Prelude.{ℕ, ◌≡◌, ◌⊎◌, ◌<◌, ◌≤◌}
use Rattle.sg_entries.specs.Flaws.{Flaw}
use Rattle.sg_entries.specs.declared.error.EntriesKind.{EntriesKind}
use Rattle.sg_entries.specs.declared.error.EntriesKind.TheVariants.{Syntax, UnknownFunction, BadArgs, BadClient, Limit}

-- the order of kinds at one place
abbrev pub entries_kind_rank : EntriesKind → ℕ
entries_kind_rank Syntax = 0
entries_kind_rank UnknownFunction = 1
entries_kind_rank BadArgs = 2
entries_kind_rank BadClient = 3
entries_kind_rank Limit = 4

-- a flaw comes before another, or is the same: at an earlier place, or at one place and of no later kind
abbrev pub IsNotAfter : Flaw → Flaw → Type 0
IsNotAfter f g = (f.at < g.at) ⊎ ((f.at ≡ g.at) × (entries_kind_rank f.kind ≤ entries_kind_rank g.kind))
