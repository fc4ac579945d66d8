-- The member of a `stop`, and the stops of the members, member after member.
use Rattle.std.proofs.Common.{◌≡◌, ℕ, zero, suc, ◌+◌, ◌<◌, ◌≤◌, Bool, true, false, cond, List, [], ◌∷◌, ◌++◌, None, Some, length, map, refl, sym, ◌∙◌, ap, arith}
use Rattle.std.specs.Prelude.{slice_index_or}
use Rattle.std.specs.Option.{option_map_or}
use Rattle.std.specs.declared.option.Option.{Option}
use Rattle.std.specs.List.{list_any, position_from, range_with_len}
use Rattle.std.specs.Str.{bytes_eq}
use Rattle.sg_facts.specs.Interface.{Declared}
use Rattle.sg_script_parse.specs.sg_lex.Lexeme.{Spelling}
use Rattle.sg_script_parse.specs.declared.tree.Part.{Part}
use Rattle.sg_script.specs.declared.front.SeenParts.{SeenParts}
use Rattle.sg_script.specs.Scripts.{is_stop_of, stop_member}
use Rattle.sg_script.specs.Inside.Fronts.{IsFront}

-- ---- the member is there

below : {A : Type 0} (test : A → Bool) (first : ℕ) (xs : List A) (m : ℕ) → position_from test first xs ≡ Some m → m < first + length xs
below test first [] m is = absurd (cc is)
below test first (x ∷ xs) m is = by (test x) is (λ later. below test (first + 1) xs m later)
  where
    by : (b : Bool) → cond b (Some first) (position_from test (first + 1) xs) ≡ Some m → (position_from test (first + 1) xs ≡ Some m → m < first + 1 + length xs) → m < first + length (x ∷ xs)
    by true here later = let same : first ≡ m = cc here in omega (arith, same)
    by false here later = let low = later here in omega (arith, low)

within : (members : List Declared) (service : Option Spelling) (m : ℕ) → length members ≤ 64 → stop_member members service ≡ Some m → m < 64
within members None m few is = let same : 0 ≡ m = cc is in omega (arith, same)
within members (Some s) m few is = let low = below (λ (i : Declared). bytes_eq i.facts.name s.bytes) 0 members m is in omega (arith, low, few)

-- ---- what is kept

-- whether there was a `stop` for the member of a service
pub had : (members : List Declared) (front : SeenParts) (parts : List Part) (service : Option Spelling) → length members ≤ 64 → IsFront members front parts
    → option_map_or (λ m. slice_index_or front.stops m false) (stop_member members service) false
    ≡ option_map_or (λ m. list_any (is_stop_of members m) parts) (stop_member members service) false
had members front parts service few is = by (stop_member members service) (λ m found. within members service m few found)
  where
    by : (o : Option ℕ) → ((m : ℕ) → o ≡ Some m → m < 64) → option_map_or (λ m. slice_index_or front.stops m false) o false ≡ option_map_or (λ m. list_any (is_stop_of members m) parts) o false
    by None low = refl
    by (Some m) low = is.stops m (low m refl)

-- ---- member after member

range_more : (a n : ℕ) → range_with_len a (n + 1) ≡ range_with_len a n ++ (a + n) ∷ []
range_more a zero = ap (λ m. m ∷ []) (let same : a ≡ a + 0 = omega arith in same)
range_more a (suc n) =
    ap (range_with_len a) (let same : suc n + 1 ≡ suc (n + 1) = omega arith in same)
    ∙ ap (λ l. a ∷ l) (range_more (a + 1) n)
    ∙ ap (λ m. a ∷ range_with_len (a + 1) n ++ m ∷ []) (let same : a + 1 + n ≡ a + suc n = omega arith in same)

map_more : (f : ℕ → List ℕ) (xs : List ℕ) (x : ℕ) → map f (xs ++ x ∷ []) ≡ map f xs ++ f x ∷ []
map_more f [] x = refl
map_more f (y ∷ xs) x = ap (λ l. f y ∷ l) (map_more f xs x)

-- what is made of the first numbers, and of one more
pub one_more_made : (f : ℕ → List ℕ) (made new : List (List ℕ)) (n : ℕ) (x : List ℕ) → made ≡ map f (range_with_len 0 n) → x ≡ f n → new ≡ made ++ x ∷ [] → new ≡ map f (range_with_len 0 (n + 1))
one_more_made f made new n x is own more =
    more ∙ ap (λ l. l ++ x ∷ []) is ∙ ap (λ y. map f (range_with_len 0 n) ++ y ∷ []) own ∙ sym (map_more f (range_with_len 0 n) n)
    ∙ ap (map f) (sym (range_more 0 n ∙ ap (λ m. range_with_len 0 n ++ m ∷ []) (let same : 0 + n ≡ n = omega arith in same)))
