-- The marks of paths in the map.
use Rattle.std.proofs.Common.{◌≡◌, ℕ, Bool, true, false, cond, List, Some, None, is_some, refl, ◌∙◌, ap, inl, inr}
use Rattle.std.specs.Prelude.{◌||◌, Vec, IsSome, unwrap_or}
use Rattle.std.specs.Map.{lookup, set_value}
use Rattle.std.specs.BTreeMap.{insert_entry}
use Rattle.std.specs.Option.{option_map}
use Rattle.std.specs.Str.{bytes_eq}
use Rattle.std.specs.declared.alloc.Global.{Global}
use Rattle.std.specs.declared.option.Option.{Option}
use Rattle.sg_store.proofs.ByText.{added_at, has_bytes, moved_at, told_at, vec_cmp}
use Rattle.sg_store.proofs.Paths.{told, one_path}
use Rattle.sg_replay.specs.Present.{Marks, HasMark, is_present, mark_at, mark_of, marks_of}

-- the mark of a path, with the path
abbrev with_path : List ℕ → Bool → List ℕ × Bool
with_path key mark = (key, mark)

-- the map has a mark with its path at the path's bytes
found : (entries : List (Vec ℕ Global × Bool)) (key : List ℕ) → option_map (with_path key) (lookup (has_bytes key) entries) ≡ mark_at (marks_of entries) key
found = told_at with_path mark_at (λ key. refl) (λ k v xs key. refl)

-- the mark of a path is what the map has at its bytes
pub mark_found : (entries : List (Vec ℕ Global × Bool)) (key : List ℕ) → unwrap_or (lookup (has_bytes key) entries) false ≡ is_present (marks_of entries) key
mark_found entries key = at (lookup (has_bytes key) entries) ∙ ap mark_of (found entries key)
  where
    at : (o : Option Bool) → unwrap_or o false ≡ mark_of (option_map (with_path key) o)
    at None = refl
    at (Some mark) = refl

-- a path has a mark where the map has one at its bytes
pub has_found : (entries : List (Vec ℕ Global × Bool)) (key : List ℕ) → is_some (lookup (has_bytes key) entries) ≡ is_some (mark_at (marks_of entries) key)
has_found entries key = at (lookup (has_bytes key) entries) ∙ ap is_some (found entries key)
  where
    at : (o : Option Bool) → is_some o ≡ is_some (option_map (with_path key) o)
    at None = refl
    at (Some mark) = refl

-- after an entry comes, or another comes in its place
pub mark_added : (entries : List (Vec ℕ Global × Bool)) (k : Vec ℕ Global) (v : Bool) (key : List ℕ)
    → mark_at (marks_of (insert_entry vec_cmp entries k v)) key ≡ cond (bytes_eq key k.items) (Some (k.items, v)) (mark_at (marks_of entries) key)
mark_added = added_at with_path mark_at (λ key. refl) (λ k v xs key. refl)

-- after another mark is written through what the map lent
pub mark_moved : (entries : List (Vec ℕ Global × Bool)) (k : List ℕ) (v : Bool) (key : List ℕ) → IsSome (mark_at (marks_of entries) k)
    → mark_at (marks_of (set_value (has_bytes k) entries v)) key ≡ cond (bytes_eq key k) (Some (k, v)) (mark_at (marks_of entries) key)
mark_moved = moved_at with_path mark_at (λ key. refl) (λ k v xs key. refl)

-- ---- what a change at one path tells

module _ (old new : Marks) (key : List ℕ) (v : Bool) (is : (k : List ℕ) → mark_at new k ≡ cond (bytes_eq k key) (Some (key, v)) (mark_at old k)) where
  -- every path that had a mark has one
  pub marks_stay : (k : List ℕ) → HasMark old k → HasMark new k
  marks_stay k had = ap is_some (is k) ∙ at (bytes_eq k key)
    where
      at : (b : Bool) → is_some (cond b (Some (key, v)) (mark_at old k)) ≡ true
      at true = refl
      at false = had

  -- the path itself has a mark
  pub mark_comes : HasMark new key
  mark_comes = ap is_some (is key) ∙ at (bytes_eq key key) (itself key)
    where
      itself : (k : List ℕ) → bytes_eq k k ≡ true
      itself k = elim (told k k) [ inl same ↦ same.0 | inr apart ↦ absurd (apart.1 refl) ]

      at : (b : Bool) → b ≡ true → is_some (cond b (Some (key, v)) (mark_at old key)) ≡ true
      at true is = refl
      at false is = absurd (cc is)

-- a new mark makes no file present, where the path had none
pub none_present : (old new : Marks) (key : List ℕ) → is_some (mark_at old key) ≡ false → ((k : List ℕ) → mark_at new k ≡ cond (bytes_eq k key) (Some (key, false)) (mark_at old k))
    → (k : List ℕ) → is_present new k ≡ is_present old k
none_present old new key none is k = ap mark_of (is k) ∙ at (bytes_eq k key) refl
  where
    absent : (o : Option (List ℕ × Bool)) → is_some o ≡ false → false ≡ mark_of o
    absent None is = refl
    absent (Some m) is = absurd (cc is)

    at : (b : Bool) → bytes_eq k key ≡ b → mark_of (cond b (Some (key, false)) (mark_at old k)) ≡ mark_of (mark_at old k)
    at true same = absent (mark_at old k) (ap (λ q. is_some (mark_at old q)) (one_path k key same) ∙ none)
    at false apart = refl

-- a mark makes the file of its path present
pub one_present : (old new : Marks) (key : List ℕ) → ((k : List ℕ) → mark_at new k ≡ cond (bytes_eq k key) (Some (key, true)) (mark_at old k))
    → (k : List ℕ) → is_present new k ≡ (bytes_eq k key || is_present old k)
one_present old new key is k = ap mark_of (is k) ∙ at (bytes_eq k key)
  where
    at : (b : Bool) → mark_of (cond b (Some (key, true)) (mark_at old k)) ≡ (b || mark_of (mark_at old k))
    at true = refl
    at false = refl
