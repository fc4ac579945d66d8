-- The places of files in the buffer.
use Rattle.std.specs.Prelude.{ℕ, ◌≡◌, ◌+◌, ◌≤◌, List, Some, Vec, length, map}
use Rattle.std.specs.declared.alloc.Global.{Global}
use Rattle.std.specs.Option.{option_map}
use Rattle.std.specs.declared.option.Option.{Option}
use Rattle.sg_facts.specs.Limits.{most_file}
use Rattle.sg_store.specs.declared.places.FilePlace.{FilePlace}
use Rattle.sg_store.specs.Spans.{AreApart, Span, span_at}

-- the span of a path at a place
abbrev pub span_of : List ℕ → FilePlace → Span
span_of key place = record { key = key; from = place.from; len = place.len; room = place.room }

-- the spans of all paths that have a place
abbrev pub spans_of : List (Vec ℕ Global × FilePlace) → List Span
spans_of entries = map (λ e. span_of e.0.items e.1) entries

-- the span of a path, where it has a place
abbrev pub placed_span : List ℕ → Option FilePlace → Option Span
placed_span key place = option_map (span_of key) place

-- a path has a place
abbrev pub HasSpan : List Span → List ℕ → FilePlace → Type 0
HasSpan spans key place = span_at spans key ≡ Some (span_of key place)

-- a span lies within a buffer, and its file within its room
pub record IsInBuffer (buffer : List ℕ) (s : Span) : Type 0 where
  pub len : s.len ≤ s.room
  pub end : s.from + s.room ≤ length buffer
  pub most : s.len ≤ most_file

-- spans lie within a buffer, and no two have a byte in common
pub record AreSpans (buffer : List ℕ) (spans : List Span) : Type 0 where
  pub within : (key : List ℕ) (s : Span) → span_at spans key ≡ Some s → IsInBuffer buffer s
  pub apart : AreApart spans
