-- The first of the flaws of a list is that of the first element that has one.
use Rattle.std.proofs.Common.{◌≡◌, ℕ, suc, ◌<◌, List, [], ◌∷◌, ◌++◌, Ok, Err, subst, length, get_or, take, drop, sym, ◌∙◌, ap}
use Rattle.std.proofs.Math.ListN.{set}
use Rattle.std.proofs.lemmas.Grind.{flat_map-append}
use Rattle.std.proofs.lemmas.List.{set-get_or, set_split}
use Rattle.std.specs.List.{flat_map}
use Rattle.std.specs.Result.{IsErrAnd}
use Rattle.std.specs.declared.result.Result.{Result}
use Rattle.sg_entries.specs.Flaws.{Flaw}
use Rattle.sg_entries.specs.Inside.Making.{IsMade}
use Rattle.sg_entries.specs.declared.error.EntriesError.{EntriesError}
use Rattle.sg_entries.specs.declared.error.EntriesError.TheVariants.{NoMemory, Fault}

-- a list around one of its elements
pub around : {A : Type 0} (xs : List A) (i : ℕ) (x : A) → i < length xs → x ≡ get_or xs i x → xs ≡ take i xs ++ x ∷ drop (suc i) xs
around xs i x within is = sym (set-get_or xs i x) ∙ ap (set xs i) (sym is) ∙ set_split xs i x within

-- an element after others without a flaw can't be made, and so the list can't
pub not_made : {A B C : Type 0} (flaws : A → List Flaw) (xs : List A) (i : ℕ) (x : A) (value : B) (whole : C) (e : EntriesError)
    → i < length xs → x ≡ get_or xs i x → flat_map flaws (take i xs) ≡ [] → IsMade (flaws x) value (Err e) → IsMade (flat_map flaws xs) whole (Err e)
not_made flaws xs i x value whole NoMemory within is none h = tt
not_made flaws xs i x value whole (Fault kind at) within is none h =
    let rest = flat_map flaws (drop (suc i) xs) in
    let split : flat_map flaws xs ≡ flat_map flaws (take i xs) ++ (flaws x ++ rest) =
    ap (flat_map flaws) (around xs i x within is) ∙ flat_map-append flaws (take i xs) (x ∷ drop (suc i) xs) in
    let front : flat_map flaws (take i xs) ++ (flaws x ++ rest) ≡ flaws x ++ rest = ap (λ l. l ++ (flaws x ++ rest)) none in
    let first : flaws x ++ rest ≡ record { kind = kind; at = at } ∷ h.others ++ rest = ap (λ l. l ++ rest) h.is in
    record { others = h.others ++ rest; is = split ∙ front ∙ first }

-- an error that is passed on is the same
pub passed : {A : Type 0} (P : Result A EntriesError → Type 0) (r : Result A EntriesError) (e : EntriesError) → IsErrAnd r (λ x. x ≡ e) → P (Err e) → P r
passed P (Ok a) e is h = absurd is
passed P (Err x) e is h = subst (λ y. P (Err y)) (sym is) h
