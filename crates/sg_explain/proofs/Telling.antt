-- What is told after what was there, piece by piece.
use Rattle.std.proofs.Common.{◌≡◌, ℕ, ◌+◌, ◌<◌, List, [], ◌∷◌, ◌++◌, codes, length, take, get_or, sym, ◌∙◌, ap, append_assoc}
use Rattle.std.specs.Prelude.{Ok, Err, OnOk}
use Rattle.std.specs.declared.result.Result.{Result}
use Rattle.std.specs.List.{concat, flat_map}
use Rattle.std.proofs.lemmas.List.{flat_map_more, take_more}

-- a line
pub with_line : {X E : Type 0} (r : Result X E) (P : List ℕ → Type 0) (old new line : List ℕ) → P line → OnOk r (new ≡ old ++ line) → OnOk r ((l : List ℕ) × P l × (new ≡ old ++ l))
with_line (Ok x) P old new line is add = (line, is, add)
with_line (Err e) P old new line is add = tt

-- one piece more of as many as a list has elements
pub one_more_piece : {X : Type 0} (f : X → List ℕ) (xs : List X) (k : ℕ) (x : X) (old middle new : List ℕ) → k < length xs → x ≡ get_or xs k x → middle ≡ old ++ flat_map f (take k xs)
    → new ≡ middle ++ f x → new ≡ old ++ flat_map f (take (k + 1) xs)
one_more_piece f xs k x old middle new within is before add =
    add ∙ ap (λ m. m ++ f x) before ∙ flat_map_more f old (take k xs) x
    ∙ ap (λ l. old ++ flat_map f l) (ap (λ y. take k xs ++ y ∷ []) is ∙ sym (take_more xs k x within))

-- ---- what a descriptor can come to

-- the function that made it and its state
abbrev made_in : List ℕ → List ℕ → List ℕ
made_in made state = concat (codes "made by " ∷ made ∷ codes ", in the state " ∷ state ∷ codes ", fields set:" ∷ [])

-- something more stands after that
made_in_with : (made state more : List ℕ) → made_in made state ++ more ≡ codes "made by " ++ (made ++ (codes ", in the state " ++ (state ++ (codes ", fields set:" ++ more))))
made_in_with made state more =
    ap (λ l. codes "made by " ++ l) (append_assoc made (codes ", in the state " ++ (state ++ codes ", fields set:")) more)
    ∙ ap (λ l. codes "made by " ++ (made ++ (codes ", in the state " ++ l))) (append_assoc state (codes ", fields set:") more)

-- with its fields
pub come_to : {X E : Type 0} (r : Result X E) (made made' state state' fields old first second new : List ℕ) → made ≡ made' → state ≡ state' → first ≡ old ++ made_in made state
    → second ≡ first ++ fields → OnOk r (new ≡ second ++ codes "; ")
    → OnOk r (new ≡ old ++ concat (codes "made by " ∷ made' ∷ codes ", in the state " ∷ state' ∷ codes ", fields set:" ∷ fields ∷ codes "; " ∷ []))
come_to (Ok x) made made' state state' fields old first second new by at one two three =
    three ∙ ap (λ l. l ++ codes "; ") (two ∙ ap (λ l. l ++ fields) (one ∙ ap (λ m. old ++ made_in m state) by ∙ ap (λ s. old ++ made_in made' s) at))
    ∙ append_assoc (old ++ made_in made' state') fields (codes "; ") ∙ append_assoc old (made_in made' state') (fields ++ codes "; ")
    ∙ ap (λ l. old ++ l) (made_in_with made' state' (fields ++ codes "; "))
come_to (Err e) made made' state state' fields old first second new by at one two three = tt
