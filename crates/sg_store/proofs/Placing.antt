-- Where paths stand in the map of places.
use Rattle.std.proofs.Common.{◌≡◌, ℕ, cond, List, Some, refl}
use Rattle.std.specs.Prelude.{Vec, IsSome}
use Rattle.std.specs.declared.alloc.Global.{Global}
use Rattle.std.specs.Str.{bytes_eq}
use Rattle.std.specs.BTreeMap.{insert_entry}
use Rattle.std.specs.Map.{lookup, set_value}
use Rattle.sg_store.specs.declared.places.FilePlace.{FilePlace}
use Rattle.sg_store.specs.Spans.{span_at}
use Rattle.sg_store.specs.Inside.Places.{placed_span, span_of, spans_of}
use Rattle.sg_store.proofs.ByText.{added_at, has_bytes, moved_at, told_at, vec_cmp}

-- the span of a path is what the map has at its bytes
pub span_found : (entries : List (Vec ℕ Global × FilePlace)) (key : List ℕ) → placed_span key (lookup (has_bytes key) entries) ≡ span_at (spans_of entries) key
span_found = told_at span_of span_at (λ key. refl) (λ k v xs key. refl)

-- after an entry comes, or another comes in its place
pub span_added : (entries : List (Vec ℕ Global × FilePlace)) (k : Vec ℕ Global) (place : FilePlace) (key : List ℕ)
    → span_at (spans_of (insert_entry vec_cmp entries k place)) key ≡ cond (bytes_eq key k.items) (Some (span_of k.items place)) (span_at (spans_of entries) key)
span_added = added_at span_of span_at (λ key. refl) (λ k v xs key. refl)

-- after another place is written through what the map lent
pub span_moved : (entries : List (Vec ℕ Global × FilePlace)) (k : List ℕ) (place : FilePlace) (key : List ℕ) → IsSome (span_at (spans_of entries) k)
    → span_at (spans_of (set_value (has_bytes k) entries place)) key ≡ cond (bytes_eq key k) (Some (span_of k place)) (span_at (spans_of entries) key)
span_moved = moved_at span_of span_at (λ key. refl) (λ k v xs key. refl)
