-- What a call does to the count of faults and to the bytes of a source or a sink.
use Rattle.std.specs.Prelude.{ℕ, ◌+◌, ◌<◌, ◌≤◌, ◌≡◌, ◌⊎◌, List, length, min}
use Rattle.std.specs.Io.KnownBytes.{Consumes}
use Rattle.std.specs.declared.option.Option.{Option}
use Rattle.sg_base.specs.Counts.{last_count}

-- one more, up to the end of the count
abbrev pub one_more : ℕ → ℕ
one_more count = min (count + 1) last_count

-- the count rose; at the end of the count every number counts as risen
abbrev pub Rose : ℕ → ℕ → Type 0
Rose old new = (old < new) ⊎ (last_count ≤ new)

-- known bytes lost at most this many from their front, and nothing else
abbrev pub ConsumesAtMost : ℕ → Option (List ℕ) → Option (List ℕ) → Type 0
ConsumesAtMost most old new = (bytes : List ℕ) × (length bytes ≤ most) × Consumes old new bytes

-- known bytes lost just this many from their front, and nothing else
abbrev pub ConsumesJust : ℕ → Option (List ℕ) → Option (List ℕ) → Type 0
ConsumesJust count old new = (bytes : List ℕ) × (length bytes ≡ count) × Consumes old new bytes

-- a number of bytes of a piece: at least one, where it has any
abbrev pub TakesSome : List ℕ → ℕ → Type 0
TakesSome piece count = (count ≤ length piece) × (0 < length piece → 0 < count)
