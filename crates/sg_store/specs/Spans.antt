-- Files in one buffer: where each stands, and its bytes.
use Rattle.std.specs.Prelude.{ℕ, ◌≡◌, ◌≢◌, ◌+◌, ◌*◌, ◌≤◌, ◌==◌, ◌&&◌, ◌⊎◌, nat_le, if◌then◌else◌, List, [], None, Some, find, length, min, take, drop, slice_range}
use Rattle.std.specs.Str.{bytes_eq}
use Rattle.std.specs.declared.option.Option.{Option}
use Rattle.sg_facts.specs.declared.outcome.Patch.{Patch}
use Rattle.sg_facts.specs.Limits.{most_file, most_written}
use Rattle.sg_facts.specs.Object.{over}

-- where a file stands in the buffer: its path, the place of its first byte, its length, and how many bytes it has room for
pub record Span : Type 0 where
  pub key : List ℕ
  pub from : ℕ
  pub len : ℕ
  pub room : ℕ

-- the buffer, and where each file stands in it
pub record Filed : Type 0 where
  pub buffer : List ℕ
  pub spans : List Span

-- the span of a path
abbrev pub span_at : List Span → List ℕ → Option Span
span_at spans key = find (λ s. bytes_eq key s.key) spans

-- so many bytes of a buffer from a place on
abbrev pub buffer_part : List ℕ → ℕ → ℕ → List ℕ
buffer_part buffer from len = take len (drop from buffer)

-- the bytes of a span; none without one
abbrev pub span_bytes : List ℕ → Option Span → List ℕ
span_bytes buffer None = []
span_bytes buffer (Some s) = buffer_part buffer s.from s.len

-- the room of a span; none without one
abbrev pub span_room : Option Span → ℕ
span_room None = 0
span_room (Some s) = s.room

-- the room of a file; a path without a span has none
abbrev pub room_in : List Span → List ℕ → ℕ
room_in spans key = span_room (span_at spans key)

-- place and room of a span
abbrev pub span_stand : Option Span → Option (ℕ × ℕ)
span_stand None = None
span_stand (Some s) = Some (s.from, s.room)

-- the place of a file, and its room
abbrev pub stand_in : List Span → List ℕ → Option (ℕ × ℕ)
stand_in spans key = span_stand (span_at spans key)

-- the room of a file stays, or comes to at least twice as much
abbrev pub GrowsTwice : List Span → List Span → List ℕ → Type 0
GrowsTwice old new key = (room_in new key ≡ room_in old key) ⊎ (2 * room_in old key ≤ room_in new key)

-- place and length of a span that has bytes
abbrev pub shown_span : Option Span → Option (ℕ × ℕ)
shown_span None = None
shown_span (Some s) = if s.len == 0 then None else Some (s.from, s.len)

-- two spans have no byte of their rooms in common
abbrev pub IsApart : Span → Span → Type 0
IsApart s t = (s.from + s.room ≤ t.from) ⊎ (t.from + t.room ≤ s.from)

-- the spans of any two paths have no byte in common
abbrev pub AreApart : List Span → Type 0
AreApart spans = (a b : List ℕ) (s t : Span) → a ≢ b → span_at spans a ≡ Some s → span_at spans b ≡ Some t → IsApart s t

-- the bytes of a file; one that was never written has none
abbrev pub bytes_in : Filed → List ℕ → List ℕ
bytes_in f key = span_bytes f.buffer (span_at f.spans key)

-- a file has room for a patch more: its room is at least its length and 256, or the greatest length of a file
abbrev pub HasRoomIn : Filed → List ℕ → Type 0
HasRoomIn f key = min (length (bytes_in f key) + most_written) most_file ≤ room_in f.spans key

-- a patch has at most 256 bytes, begins within its file and ends at most at 65,536, and its file has room for it
pub record FitsPatch (f : Filed) (p : Patch) : Type 0 where
  pub bytes : length p.bytes ≤ most_written
  pub within : p.from ≤ length (bytes_in f p.key)
  pub end : p.from + length p.bytes ≤ most_file
  pub room : HasRoomIn f p.key

-- the bytes of a path's file after a patch, which may be of another
abbrev pub patched_at : Option Patch → List ℕ → List ℕ → List ℕ
patched_at None key bytes = bytes
patched_at (Some p) key bytes = if bytes_eq key p.key then over bytes p.from p.bytes else bytes

-- the bytes of a file from a place up to another; None where the first is after the second, or the second past the end
abbrev pub cut : List ℕ → ℕ → ℕ → Option (List ℕ)
cut file from to = if nat_le from to && nat_le to (length file) then Some (slice_range file from to) else None
