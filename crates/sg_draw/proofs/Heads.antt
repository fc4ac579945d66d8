-- The heads of lanes in columns.
use Rattle.std.proofs.Common.{◌≡◌, ℕ, zero, suc, ◌+◌, ◌<◌, List, [], ◌∷◌, ◌++◌, get_or, length, take, refl, sym, ◌∙◌, ap, append-nil, append_assoc, length-append, arith}
use Rattle.std.specs.Prelude.{codes, replicate, slice_index_or}
use Rattle.std.specs.List.{flat_map}
use Rattle.std.proofs.lemmas.Grind.{flat_map-append}
use Rattle.std.proofs.lemmas.List.{take_more}
use Rattle.sg_draw.proofs.More.{one_more}

-- one head more
pub heads_more : {A : Type 0} (f : A → List ℕ) (xs : List A) (n : ℕ) (x : A) (out new : List ℕ) → n < length xs → x ≡ slice_index_or xs n x
    → out ≡ flat_map f (take n xs) → new ≡ out ++ f x → new ≡ flat_map f (take (n + 1) xs)
heads_more f xs n x out new at own before adds =
    adds ∙ ap (λ l. l ++ f x) before
    ∙ sym (ap (flat_map f) (one_more xs n x at own) ∙ flat_map-append f (take n xs) (x ∷ []) ∙ ap (λ l. flat_map f (take n xs) ++ l) (append-nil (f x)))

get_blank : (k at : ℕ) → ◌≡◌ {A = ℕ} (get_or (replicate k 32) at 32) 32
get_blank zero at = refl
get_blank (suc k) zero = refl
get_blank (suc k) (suc at) = get_blank k at

-- what stands in a name that is filled up with blanks
get_padded : (name : List ℕ) (at : ℕ) → get_or (name ++ codes "     ") at 32 ≡ get_or name at 32
get_padded [] at = get_blank 5 at
get_padded (b ∷ name) zero = refl
get_padded (b ∷ name) (suc at) = get_padded name at

-- one letter of a name more, or a blank
pub letter_more : (name : List ℕ) (at letter : ℕ) (first out new : List ℕ) → at < 5 → letter ≡ slice_index_or name at 32
    → out ≡ first ++ take at (name ++ codes "     ") → new ≡ out ++ letter ∷ [] → new ≡ first ++ take (at + 1) (name ++ codes "     ")
letter_more name at letter first out new low is before adds =
    let padded : List ℕ = name ++ codes "     " in
    let long : at < length padded = let sum = length-append name (codes "     ") in omega (arith, sum) in
    adds ∙ ap (λ v. v ++ letter ∷ []) before ∙ append_assoc first (take at padded) (letter ∷ [])
    ∙ ap (λ v. first ++ v) (ap (λ l. take at padded ++ l ∷ []) (is ∙ sym (get_padded name at)) ∙ sym (take_more padded at 32 long))
