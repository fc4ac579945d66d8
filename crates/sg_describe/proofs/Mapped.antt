-- Tests and places in a mapped list are those of the list.
use Rattle.std.proofs.Common.{◌≡◌, ℕ, Bool, cond, ◌||◌, List, [], ◌∷◌, get_or, map, zero, ◌<◌, arith, length, None, Some, suc, ◌+◌, not, refl, ◌∙◌, ap}
use Rattle.std.specs.Prelude.{All, nat_lt, position}
use Rattle.std.specs.List.{list_any, position_or_len}
use Rattle.std.proofs.lemmas.List.{length-map}

pub any_mapped : {A B : Type 0} (p : B → Bool) (f : A → B) (xs : List A) → list_any p (map f xs) ≡ list_any (λ x. p (f x)) xs
any_mapped p f [] = refl
any_mapped p f (x ∷ xs) = ap (λ b. p (f x) || b) (any_mapped p f xs)

place_mapped : {A B : Type 0} (p : B → Bool) (f : A → B) (xs : List A) → position_or_len p (map f xs) ≡ position_or_len (λ x. p (f x)) xs
place_mapped p f [] = refl
place_mapped p f (x ∷ xs) = ap (λ n. cond (not (p (f x))) (1 + n) 0) (place_mapped p f xs)

pub position_mapped : {A B : Type 0} (p : B → Bool) (f : A → B) (xs : List A) → position p (map f xs) ≡ position (λ x. p (f x)) xs
position_mapped p f xs =
    ap (λ n. cond (nat_lt n (length (map f xs))) (Some n) None) (place_mapped p f xs)
    ∙ ap (λ n. cond (nat_lt (position_or_len (λ x. p (f x)) xs) n) (Some (position_or_len (λ x. p (f x)) xs)) None) (length-map xs f)

pub map_mapped : {A B C : Type 0} (g : B → C) (f : A → B) (xs : List A) → map g (map f xs) ≡ map (λ x. g (f x)) xs
map_mapped g f [] = refl
map_mapped g f (x ∷ xs) = ap (λ l. g (f x) ∷ l) (map_mapped g f xs)

-- what holds of all that a list is mapped to holds of what each element is mapped to
pub all_mapped : {A B : Type 0} (P : B → Type 0) (f : A → B) (xs : List A) (k : ℕ) (d : A) → All P (map f xs) → k < length xs → P (f (get_or xs k d))
all_mapped P f [] k d all within = absurd (omega (arith, within))
all_mapped P f (x ∷ xs) zero d all within = all 0 (f d) (omega arith)
all_mapped P f (x ∷ xs) (suc k) d all within = all_mapped P f xs k d (λ j e before. all (suc j) e (omega (arith, before))) (omega (arith, within))
