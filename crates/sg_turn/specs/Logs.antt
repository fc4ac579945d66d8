-- What contracts say of logs and faces.
use Rattle.std.specs.Prelude.{◌≡◌, ℕ, ◌+◌, ◌≤◌, ◌<◌, ◌==◌, ◌⊎◌, if◌then◌else◌, List, [], ◌∷◌}
use mathlib.Core.List.{IsPrefix}
use Rattle.sg_facts.specs.sg_base.Counts.{last_count}
use Rattle.sg_turn.specs.declared.log.Face.{Face}
use Rattle.sg_turn.specs.declared.log.LogMark.{LogMark}

-- the face of a value: its log and its number of events
abbrev pub face_by : {V : Type 0} → (V → List LogMark) → (V → ℕ) → V → Face
face_by log events value = record { log = log value; events = events value }

-- the marks of a client, in their order
abbrev pub marks_of : ℕ → List LogMark → List LogMark
marks_of client [] = []
marks_of client (m ∷ ms) = if m.client == client then m ∷ marks_of client ms else marks_of client ms

-- each mark is of this client
abbrev pub AllBy : ℕ → List LogMark → Type 0
AllBy client [] = Unit {0}
AllBy client (m ∷ ms) = (m.client ≡ client) × AllBy client ms

-- one event more; the number stands still once it is the greatest of 64 bits
abbrev pub OneMore : ℕ → ℕ → Type 0
OneMore old new = ((old < last_count) × (new ≡ old + 1)) ⊎ ((old ≡ last_count) × (new ≡ last_count))

-- so many events more at least, or the number stands still at the greatest
abbrev pub AtLeast : ℕ → ℕ → ℕ → Type 0
AtLeast start more events = (start + more ≤ events) ⊎ (events ≡ last_count)

-- a later face of the value: its log begins with the earlier one, and there are as many events or more
pub record Follows (old new : Face) : Type 0 where
  pub log : IsPrefix old.log new.log
  pub events : old.events ≤ new.events
