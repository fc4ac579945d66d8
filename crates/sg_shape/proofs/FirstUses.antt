-- The first uses of a list that goes on.
use Rattle.std.proofs.Common.{◌≡◌, ℕ, ◌+◌, ◌<◌, Bool, true, false, cond, ◌&&◌, ◌||◌, not, List, [], ◌∷◌, ◌++◌, length, take, drop, get_or, Some, refl, sym, ◌∙◌, ap, append_assoc}
use Rattle.std.specs.Prelude.{filter, slice_get}
use Rattle.std.specs.List.{list_any}
use Rattle.std.specs.Str.{bytes_eq}
use Rattle.std.proofs.lemmas.List.{take_more, take-append-drop, take_at, append-nil}
use Rattle.std.proofs.lemmas.List.Elements.{filter-append, filter_agree}
use Rattle.sg_shape.specs.Fields.{Use, first_uses, is_of_another}
use Rattle.sg_shape.proofs.Names.{same_bytes, turned}
use Rattle.sg_shape.proofs.Places.{at_split}

-- whether one of some uses is of the field of a name
abbrev pub has_use : List Use → List ℕ → Bool
has_use uses name = list_any (λ u. bytes_eq u.name.bytes name) uses

-- whether a use is of a field that none of some uses is of
abbrev is_new : List Use → Use → Bool
is_new uses u = not (has_use uses u.name.bytes)

-- a use of one field is still there where those of another are left out
still_used : (x : Use) (uses : List Use) (name : List ℕ) → bytes_eq x.name.bytes name ≡ false → has_use (filter (is_of_another x) uses) name ≡ has_use uses name
still_used x [] name apart = refl
still_used x (v ∷ uses) name apart = by (bytes_eq v.name.bytes x.name.bytes) refl (still_used x uses name apart)
  where
    by : (b : Bool) → bytes_eq v.name.bytes x.name.bytes ≡ b → has_use (filter (is_of_another x) uses) name ≡ has_use uses name
        → has_use (cond (not b) (v ∷ filter (is_of_another x) uses) (filter (is_of_another x) uses)) name ≡ (bytes_eq v.name.bytes name || has_use uses name)
    by true told rest =
        let other : bytes_eq v.name.bytes name ≡ false = ap (λ m. bytes_eq m name) (same_bytes v.name.bytes x.name.bytes told) ∙ apart in
        rest ∙ ap (λ b. b || has_use uses name) (sym other)
    by false told rest = ap (λ b. bytes_eq v.name.bytes name || b) rest

-- ---- filters

filter_twice : (p q : Use → Bool) (uses : List Use) → filter p (filter q uses) ≡ filter (λ u. q u && p u) uses
filter_twice p q [] = refl
filter_twice p q (u ∷ uses) = by (q u) (filter_twice p q uses)
  where
    by : (b : Bool) → filter p (filter q uses) ≡ filter (λ v. q v && p v) uses
        → filter p (cond b (u ∷ filter q uses) (filter q uses)) ≡ cond (b && p u) (u ∷ filter (λ v. q v && p v) uses) (filter (λ v. q v && p v) uses)
    by true rest = ap (λ l. cond (p u) (u ∷ l) l) rest
    by false rest = rest

filter_all : (uses : List Use) → filter (λ u. true) uses ≡ uses
filter_all [] = refl
filter_all (u ∷ uses) = ap (λ l. u ∷ l) (filter_all uses)

and_false : (b : Bool) → (b && false) ≡ false
and_false true = refl
and_false false = refl

and_true : (b : Bool) → (b && true) ≡ b
and_true true = refl
and_true false = refl

-- ---- a list that goes on

-- a list that goes on has the first uses of what follows but for the fields that it has
first_more : (xs ys : List Use) → first_uses (xs ++ ys) ≡ first_uses xs ++ filter (is_new (first_uses xs)) (first_uses ys)
first_more [] ys = sym (filter_all (first_uses ys))
first_more (x ∷ xs) ys =
    ap (λ l. x ∷ filter (is_of_another x) l) (first_more xs ys)
    ∙ ap (λ l. x ∷ l)
    (filter-append (is_of_another x) (first_uses xs) (filter (is_new (first_uses xs)) (first_uses ys))
    ∙ ap (λ l. filter (is_of_another x) (first_uses xs) ++ l)
    (filter_twice (is_of_another x) (is_new (first_uses xs)) (first_uses ys)
    ∙ filter_agree (λ v. is_new (first_uses xs) v && is_of_another x v) (is_new (x ∷ filter (is_of_another x) (first_uses xs)))
    (λ v. by v (bytes_eq x.name.bytes v.name.bytes) refl) (first_uses ys)))
  where
    by : (v : Use) (b : Bool) → bytes_eq x.name.bytes v.name.bytes ≡ b
        → (not (has_use (first_uses xs) v.name.bytes) && not (bytes_eq v.name.bytes x.name.bytes))
        ≡ not (bytes_eq x.name.bytes v.name.bytes || has_use (filter (is_of_another x) (first_uses xs)) v.name.bytes)
    by v true told =
        ap (λ b. not (has_use (first_uses xs) v.name.bytes) && not b) (turned v.name.bytes x.name.bytes ∙ told) ∙ and_false (not (has_use (first_uses xs) v.name.bytes))
        ∙ ap (λ b. not (b || has_use (filter (is_of_another x) (first_uses xs)) v.name.bytes)) (sym told)
    by v false told =
        ap (λ b. not (has_use (first_uses xs) v.name.bytes) && not b) (turned v.name.bytes x.name.bytes ∙ told) ∙ and_true (not (has_use (first_uses xs) v.name.bytes))
        ∙ ap not (sym (still_used x (first_uses xs) v.name.bytes told))
        ∙ ap (λ b. not (b || has_use (filter (is_of_another x) (first_uses xs)) v.name.bytes)) (sym told)

module _ (uses : List Use) (i : ℕ) (u : Use) (within : i < length uses) (is : u ≡ get_or uses i u) where
  one_more : first_uses (take (i + 1) uses) ≡ first_uses (take i uses) ++ cond (is_new (first_uses (take i uses)) u) (u ∷ []) []
  one_more =
      ap first_uses (take_more uses i u within ∙ ap (λ v. take i uses ++ v ∷ []) (sym is)) ∙ first_more (take i uses) (u ∷ [])

  -- a use of a field that was there is no first one
  pub not_first : has_use (first_uses (take i uses)) u.name.bytes ≡ true → first_uses (take (i + 1) uses) ≡ first_uses (take i uses)
  not_first had =
      one_more ∙ ap (λ b. first_uses (take i uses) ++ cond (not b) (u ∷ []) []) had ∙ append-nil (first_uses (take i uses))

  -- any other is
  pub is_first : has_use (first_uses (take i uses)) u.name.bytes ≡ false → first_uses (take (i + 1) uses) ≡ first_uses (take i uses) ++ u ∷ []
  is_first none = one_more ∙ ap (λ b. first_uses (take i uses) ++ cond (not b) (u ∷ []) []) none

  going_on : has_use (first_uses (take i uses)) u.name.bytes ≡ false
      → first_uses uses ≡ first_uses (take i uses) ++ u ∷ filter (is_new (first_uses (take i uses))) (filter (is_of_another u) (first_uses (drop (i + 1) uses)))
  going_on none =
      ap first_uses (sym (take-append-drop (i + 1) uses) ∙ ap (λ l. l ++ drop (i + 1) uses) (take_more uses i u within ∙ ap (λ v. take i uses ++ v ∷ []) (sym is))
      ∙ append_assoc (take i uses) (u ∷ []) (drop (i + 1) uses))
      ∙ first_more (take i uses) (u ∷ drop (i + 1) uses)
      ∙ ap (λ b. first_uses (take i uses) ++ cond (not b) (u ∷ filter (is_new (first_uses (take i uses))) (filter (is_of_another u) (first_uses (drop (i + 1) uses))))
      (filter (is_new (first_uses (take i uses))) (filter (is_of_another u) (first_uses (drop (i + 1) uses))))) none

  -- and where there were so many first uses before, it is the next one
  pub first_ones : (most : ℕ) → has_use (first_uses (take i uses)) u.name.bytes ≡ false → length (first_uses (take i uses)) ≡ most → take most (first_uses uses) ≡ first_uses (take i uses)
  first_ones most none many =
      ap (take most) (going_on none)
      ∙ take_at (first_uses (take i uses)) (u ∷ filter (is_new (first_uses (take i uses))) (filter (is_of_another u) (first_uses (drop (i + 1) uses)))) most many

  pub next_one : (most : ℕ) → has_use (first_uses (take i uses)) u.name.bytes ≡ false → length (first_uses (take i uses)) ≡ most → slice_get (first_uses uses) most ≡ Some u
  next_one most none many =
      ap (λ n. slice_get (first_uses uses) n) (sym many) ∙ ap (λ l. slice_get l (length (first_uses (take i uses)))) (going_on none)
      ∙ at_split (first_uses (take i uses)) u (filter (is_new (first_uses (take i uses))) (filter (is_of_another u) (first_uses (drop (i + 1) uses))))

-- what a look-up among the first uses tells
pub had_use : (uses first lent : List Use) (i : ℕ) (u : Use) (name : List ℕ) (b r : Bool) → first ≡ first_uses (take i uses) → lent ≡ first → name ≡ u.name.bytes → r ≡ has_use lent name → r ≡ b
    → has_use (first_uses (take i uses)) u.name.bytes ≡ b
had_use uses first lent i u name b r own same named told is =
    ap (λ l. has_use l u.name.bytes) (sym (same ∙ own)) ∙ ap (has_use lent) (sym named) ∙ sym told ∙ is
