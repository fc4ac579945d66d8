-- Where in a history the calls of clients stand.
use Rattle.std.specs.Prelude.{ℕ, ◌≡◌, ◌==◌, Bool, ◌&&◌, List, slice_get}
use Rattle.std.specs.Map.{lookup}
use Rattle.std.specs.Option.{option_and_then}
use Rattle.sg_facts.specs.declared.entry.Entry.{Entry}
use Rattle.sg_draw.specs.Labels.{entry_of}

-- whether two pairs of a client and the number of a call are the same
abbrev pub same_call : ℕ × ℕ → ℕ × ℕ → Bool
same_call a b = (a.0 == b.0) && (a.1 == b.1)

-- what stands in a history at the place that is kept for each call is the first entry of it in a list, and no place is kept where there is none
abbrev pub ArePlacesIn : List ((ℕ × ℕ) × ℕ) → List Entry → List Entry → Type 0
ArePlacesIn kept history later = (client seq : ℕ) → option_and_then (slice_get history) (lookup (same_call (client, seq)) kept) ≡ entry_of later client seq

-- the places that are kept are those of the first entries of a history
abbrev pub ArePlaces : List ((ℕ × ℕ) × ℕ) → List Entry → Type 0
ArePlaces kept history = ArePlacesIn kept history history
