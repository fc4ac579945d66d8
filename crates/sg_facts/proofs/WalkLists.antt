-- The functions of a walk in an array of 8, of which the rest is 0.
use Rattle.std.proofs.Common.{◌≡◌, ℕ, suc, ◌+◌, ◌-◌, ◌<◌, ◌≤◌, List, ◌∷◌, length, drop, refl, ◌∙◌, ap, arith}
use Rattle.std.specs.Prelude.{replicate}
use Rattle.std.proofs.Math.ListN.{set}
use Rattle.std.proofs.lemmas.List.{length-set, drop-set}

one_more : (n y : ℕ) → y ∷ replicate n y ≡ replicate (suc n) y
one_more n y = refl

-- the last function goes
pub rest-popped : (funs : List ℕ) (len : ℕ) → 0 < len → len ≤ 8 → length funs ≡ 8 → drop len funs ≡ replicate (8 - len) 0
    → (len - 1 ≤ 8) × (length (set funs (len - 1) 0) ≡ 8) × (drop (len - 1) (set funs (len - 1) 0) ≡ replicate (8 - (len - 1)) 0)
rest-popped funs len some short all rest =
    let before : len - 1 + 1 ≡ len = omega arith in
    let more : suc (8 - len) ≡ 8 - (len - 1) = omega arith in (
      omega arith,
      length-set funs (len - 1) 0 ∙ all,
      drop-set funs (len - 1) 0 (omega arith) ∙ ap (λ n. 0 ∷ drop n funs) before ∙ ap (λ xs. 0 ∷ xs) rest ∙ one_more (8 - len) 0 ∙ ap (λ n. replicate n 0) more,
    )
