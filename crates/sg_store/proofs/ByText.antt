-- What a map keyed by text has at each path, for any values, and any way to look up what shows its entries.
use Rattle.std.proofs.Common.{◌≡◌, ℕ, Bool, true, false, cond, List, [], ◌∷◌, None, Some, map, is_some, refl, sym, ◌∙◌, ap, subst}
use Rattle.std.specs.Prelude.{Vec, IsSome}
use Rattle.std.specs.declared.alloc.Global.{Global}
use Rattle.std.specs.Str.{bytes_eq}
use Rattle.std.specs.declared.cmp.Ordering.{Ordering}
use Rattle.std.specs.declared.cmp.Ordering.TheVariants.{Less, Equal, Greater}
use Rattle.std.specs.Ordering.{is_eq, match_ordering, nat_cmp}
use Rattle.std.specs.Cmp.Lexicographic.{slice_cmp}
use Rattle.std.specs.BTreeMap.{insert_entry, is_at}
use Rattle.std.specs.Map.{lookup, set_value}
use Rattle.std.specs.Option.{option_map}
use Rattle.std.specs.declared.option.Option.{Option}
use Rattle.std.proofs.lemmas.Map.Text.{is_eq-slice_cmp}
use Rattle.sg_store.proofs.Paths.{one_path, two_paths}

-- whether a key of the map has the bytes of a path
abbrev pub has_bytes : List ℕ → Vec ℕ Global → Bool
has_bytes key = is_at (λ k. slice_cmp nat_cmp key k.items)

abbrev pub vec_cmp : Vec ℕ Global → Vec ℕ Global → Ordering
vec_cmp a b = slice_cmp nat_cmp a.items b.items

-- an entry is shown with its path, and a look-up tells the first that is shown with a path
module _ {V X : Type 0} (show : List ℕ → V → X) (find_at : List X → List ℕ → Option X) (none : (key : List ℕ) → find_at [] key ≡ None)
    (first : (k : List ℕ) (v : V) (xs : List X) (key : List ℕ) → find_at (show k v ∷ xs) key ≡ cond (bytes_eq key k) (Some (show k v)) (find_at xs key)) where
  abbrev shown : List (Vec ℕ Global × V) → List X
  shown entries = map (λ e. show e.0.items e.1) entries

  -- another value at one path
  one_more : (key k p : List ℕ) (v w : V) (old : Option X) → bytes_eq k p ≡ true
      → cond (bytes_eq key p) (Some (show p v)) old ≡ cond (bytes_eq key k) (Some (show k v)) (cond (bytes_eq key p) (Some (show p w)) old)
  one_more key k p v w old is =
      subst (λ q. cond (bytes_eq key q) (Some (show q v)) old ≡ cond (bytes_eq key k) (Some (show k v)) (cond (bytes_eq key q) (Some (show q w)) old)) (one_path k p is)
      (twice (bytes_eq key k))
    where
      twice : (b : Bool) → cond b (Some (show k v)) old ≡ cond b (Some (show k v)) (cond b (Some (show k w)) old)
      twice true = refl
      twice false = refl

  -- a value at another path
  two_more : (key k p : List ℕ) (here x old : Option X) → bytes_eq k p ≡ false
      → cond (bytes_eq key p) x (cond (bytes_eq key k) here old) ≡ cond (bytes_eq key k) here (cond (bytes_eq key p) x old)
  two_more key k p here x old apart = swap (bytes_eq key p) (bytes_eq key k) refl refl
    where
      swap : (a b : Bool) → bytes_eq key p ≡ a → bytes_eq key k ≡ b → cond a x (cond b here old) ≡ cond b here (cond a x old)
      swap true true is is' = absurd (two_paths k p apart (sym (one_path key k is') ∙ one_path key p is))
      swap true false is is' = refl
      swap false true is is' = refl
      swap false false is is' = refl

  -- what is told at a path is what the map has at its bytes
  pub told_at : (entries : List (Vec ℕ Global × V)) (key : List ℕ) → option_map (show key) (lookup (has_bytes key) entries) ≡ find_at (shown entries) key
  told_at [] key = sym (none key)
  told_at (e ∷ entries) key =
      ap (λ b. option_map (show key) (cond b (Some e.1) (lookup (has_bytes key) entries))) (is_eq-slice_cmp key e.0.items)
      ∙ at (bytes_eq key e.0.items) refl (told_at entries key) ∙ sym (first e.0.items e.1 (shown entries) key)
    where
      at : (b : Bool) → bytes_eq key e.0.items ≡ b → option_map (show key) (lookup (has_bytes key) entries) ≡ find_at (shown entries) key
          → option_map (show key) (cond b (Some e.1) (lookup (has_bytes key) entries)) ≡ cond b (Some (show e.0.items e.1)) (find_at (shown entries) key)
      at true is rest = ap (λ k. Some (show k e.1)) (one_path key e.0.items is)
      at false is rest = rest

  -- after an entry comes, or another comes in its place
  pub added_at : (entries : List (Vec ℕ Global × V)) (k : Vec ℕ Global) (v : V) (key : List ℕ)
      → find_at (shown (insert_entry vec_cmp entries k v)) key ≡ cond (bytes_eq key k.items) (Some (show k.items v)) (find_at (shown entries) key)
  added_at [] k v key = first k.items v [] key
  added_at (e ∷ entries) k v key = at (added_at entries k v key) (vec_cmp k e.0) (is_eq-slice_cmp k.items e.0.items)
    where
      old : Option X
      old = find_at (shown entries) key

      back : cond (bytes_eq key e.0.items) (Some (show e.0.items e.1)) old ≡ find_at (shown (e ∷ entries)) key
      back = sym (first e.0.items e.1 (shown entries) key)

      at : find_at (shown (insert_entry vec_cmp entries k v)) key ≡ cond (bytes_eq key k.items) (Some (show k.items v)) old → (r : Ordering) → is_eq r ≡ bytes_eq k.items e.0.items
          → find_at (shown (match_ordering r ((k, v) ∷ e ∷ entries) ((e.0, v) ∷ entries) (e ∷ insert_entry vec_cmp entries k v))) key
          ≡ cond (bytes_eq key k.items) (Some (show k.items v)) (find_at (shown (e ∷ entries)) key)
      at rest Less is = first k.items v (shown (e ∷ entries)) key
      at rest Equal is =
          first e.0.items v (shown entries) key ∙ one_more key k.items e.0.items v e.1 old (sym is) ∙ ap (cond (bytes_eq key k.items) (Some (show k.items v))) back
      at rest Greater is =
          first e.0.items e.1 (shown (insert_entry vec_cmp entries k v)) key ∙ ap (cond (bytes_eq key e.0.items) (Some (show e.0.items e.1))) rest
          ∙ two_more key k.items e.0.items (Some (show k.items v)) (Some (show e.0.items e.1)) old (sym is) ∙ ap (cond (bytes_eq key k.items) (Some (show k.items v))) back

  -- after another value is written through what the map lent
  pub moved_at : (entries : List (Vec ℕ Global × V)) (k : List ℕ) (v : V) (key : List ℕ) → IsSome (find_at (shown entries) k)
      → find_at (shown (set_value (has_bytes k) entries v)) key ≡ cond (bytes_eq key k) (Some (show k v)) (find_at (shown entries) key)
  moved_at [] k v key there = let gone : false ≡ true = sym (ap is_some (none k)) ∙ there in absurd (cc gone)
  moved_at (e ∷ entries) k v key there =
      ap (λ b. find_at (shown (cond b ((e.0, v) ∷ entries) (e ∷ set_value (has_bytes k) entries v))) key) (is_eq-slice_cmp k e.0.items)
      ∙ at (moved_at entries k v key) (bytes_eq k e.0.items) refl (sym (ap is_some (first e.0.items e.1 (shown entries) k)) ∙ there)
    where
      old : Option X
      old = find_at (shown entries) key

      back : cond (bytes_eq key e.0.items) (Some (show e.0.items e.1)) old ≡ find_at (shown (e ∷ entries)) key
      back = sym (first e.0.items e.1 (shown entries) key)

      at : (IsSome (find_at (shown entries) k) → find_at (shown (set_value (has_bytes k) entries v)) key ≡ cond (bytes_eq key k) (Some (show k v)) old)
          → (b : Bool) → bytes_eq k e.0.items ≡ b → IsSome (cond b (Some (show e.0.items e.1)) (find_at (shown entries) k))
          → find_at (shown (cond b ((e.0, v) ∷ entries) (e ∷ set_value (has_bytes k) entries v))) key
          ≡ cond (bytes_eq key k) (Some (show k v)) (find_at (shown (e ∷ entries)) key)
      at rest true is some =
          first e.0.items v (shown entries) key ∙ one_more key k e.0.items v e.1 old is ∙ ap (cond (bytes_eq key k) (Some (show k v))) back
      at rest false is some =
          first e.0.items e.1 (shown (set_value (has_bytes k) entries v)) key ∙ ap (cond (bytes_eq key e.0.items) (Some (show e.0.items e.1))) (rest some)
          ∙ two_more key k e.0.items (Some (show k v)) (Some (show e.0.items e.1)) old is ∙ ap (cond (bytes_eq key k) (Some (show k v))) back
