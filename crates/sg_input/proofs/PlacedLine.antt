-- A printed line that says what is at a place of a text: two groupings of its pieces are one.
use Rattle.std.proofs.Common.{◌≡◌, ℕ, List, [], ◌∷◌, ◌++◌, ◌∙◌, ap, append_assoc}
use Rattle.std.specs.Prelude.{codes}
use Rattle.std.specs.Fmt.{decimal}

-- the line, from its end on
abbrev pub placed : List ℕ → List ℕ → List ℕ → List ℕ → List ℕ
placed front line column name = front ++ (line ++ (codes ":" ++ (column ++ (codes ": " ++ (name ++ 10 ∷ [])))))

pub regrouped : (front line column name : List ℕ) → placed front line column name ≡ front ++ line ++ codes ":" ++ column ++ codes ": " ++ name ++ 10 ∷ []
regrouped front line column name = simp append_assoc

-- the line of equal pieces is one
pub same_line : (front : List ℕ) (line line' column column' : ℕ) (name name' : List ℕ) → line ≡ line' → column ≡ column' → name ≡ name'
    → placed front (decimal line) (decimal column) name ≡ placed front (decimal line') (decimal column') name'
same_line front line line' column column' name name' l c n =
    ap (λ x. placed front (decimal x) (decimal column) name) l ∙ ap (λ x. placed front (decimal line') (decimal x) name) c
    ∙ ap (λ x. placed front (decimal line') (decimal column') x) n

-- the line of a text that is refused by its number
pub numbered : (number : ℕ) (line column name : List ℕ)
    → codes "interface " ++ (decimal number ++ (codes " refused at " ++ (line ++ (codes ":" ++ (column ++ (codes ": " ++ (name ++ 10 ∷ [])))))))
    ≡ (codes "interface " ++ decimal number ++ codes " refused at ") ++ line ++ codes ":" ++ column ++ codes ": " ++ name ++ 10 ∷ []
numbered number line column name = simp append_assoc

-- of equal pieces it is one
pub same_numbered : (number line line' column column' : ℕ) (name : List ℕ) → line ≡ line' → column ≡ column'
    → codes "interface " ++ (decimal number ++ (codes " refused at " ++ (decimal line ++ (codes ":" ++ (decimal column ++ (codes ": " ++ (name ++ 10 ∷ [])))))))
    ≡ codes "interface " ++ (decimal number ++ (codes " refused at " ++ (decimal line' ++ (codes ":" ++ (decimal column' ++ (codes ": " ++ (name ++ 10 ∷ [])))))))
same_numbered number line line' column column' name l c =
    ap (λ x. codes "interface " ++ (decimal number ++ (codes " refused at " ++ (decimal x ++ (codes ":" ++ (decimal column ++ (codes ": " ++ (name ++ 10 ∷ [])))))))) l
    ∙ ap (λ x. codes "interface " ++ (decimal number ++ (codes " refused at " ++ (decimal line' ++ (codes ":" ++ (decimal x ++ (codes ": " ++ (name ++ 10 ∷ [])))))))) c
