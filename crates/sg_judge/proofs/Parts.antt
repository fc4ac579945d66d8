-- Parts of a text that are added one after the other.
use Rattle.std.proofs.Common.{◌≡◌, List, [], ◌++◌, ℕ, refl, ap, ◌∙◌, append_assoc, append-nil}
use Rattle.std.specs.Prelude.{Ok, Err, OnOk}
use Rattle.std.specs.declared.result.Result.{Result}

pub on_ok : {T E P Q : Type 0} (r : Result T E) → (P → Q) → OnOk r P → OnOk r Q
on_ok (Ok v) f p = f p
on_ok (Err e) f p = tt

-- a word with a name, and what follows them
pub named_parts : (out word made name more first second : List ℕ) → made ≡ name → first ≡ out ++ (word ++ (made ++ [])) → second ≡ first ++ more
    → second ≡ out ++ (word ++ (name ++ (more ++ [])))
named_parts out word made name more first second m e1 e2 =
    e2 ∙ ap (λ l. l ++ more) (e1 ∙ ap (λ l. out ++ (word ++ (l ++ []))) m) ∙ (simp (append_assoc, append-nil) refl)

-- three parts
pub three_parts : (out one two three first second third : List ℕ) → first ≡ out ++ one → second ≡ first ++ two → third ≡ second ++ three
    → third ≡ out ++ (one ++ (two ++ (three ++ [])))
three_parts out one two three first second third e1 e2 e3 =
    e3 ∙ ap (λ l. l ++ three) (e2 ∙ ap (λ l. l ++ two) e1) ∙ (simp (append_assoc, append-nil) refl)
