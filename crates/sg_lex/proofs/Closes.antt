-- Where a comment of several lines ends, by index.
use Rattle.std.proofs.Common.{ℕ, zero, suc, ◌+◌, ◌-◌, ◌<◌, ◌≤◌, ◌∙◌, ◌≡◌, ◌&&◌, eqb, Bool, true, false, List, [], ◌∷◌, Some, None, length, get_or, refl, ap, arith}
use Rattle.sg_lex.specs.Fronts.{closed_after}

-- a `*/` stands at an index
abbrev pub closes : List ℕ → ℕ → Bool
closes xs k = eqb (get_or xs k 0) 0x2A && eqb (get_or xs (suc k) 0) 0x2F

pub closed_none : (xs : List ℕ) → ((k : ℕ) → suc k < length xs → closes xs k ≡ false) → closed_after xs ≡ None
closed_none [] h = refl
closed_none (b ∷ []) h = refl
closed_none (b ∷ c ∷ bs) h =
    let here : closes (b ∷ c ∷ bs) 0 ≡ false = h 0 (omega arith) in
    let behind : closed_after (c ∷ bs) ≡ None = closed_none (c ∷ bs) (λ k l. h (suc k) (omega arith)) in
    rw (here, behind) refl

pub closed_at : (xs : List ℕ) (i : ℕ) → suc i < length xs → closes xs i ≡ true → ((k : ℕ) → k < i → closes xs k ≡ false)
    → closed_after xs ≡ Some (i + 2)
closed_at [] i l e h = absurd (omega arith)
closed_at (b ∷ []) i l e h = absurd (omega arith)
closed_at (b ∷ c ∷ bs) zero l e h = rw e refl
closed_at (b ∷ c ∷ bs) (suc i) l e h =
    let here : closes (b ∷ c ∷ bs) 0 ≡ false = h 0 (omega arith) in
    let behind : closed_after (c ∷ bs) ≡ Some (i + 2) = closed_at (c ∷ bs) i (omega arith) e (λ k l. h (suc k) (omega arith)) in
    rw (here, behind) (ap Some (omega arith))

-- where the first `*/` stands, by the place of the `/`
pub closed_before : (xs : List ℕ) (i : ℕ) → 1 ≤ i → i < length xs → get_or xs (i - 1) 0 ≡ 0x2A → get_or xs i 0 ≡ 0x2F
    → ((k : ℕ) → suc k < i → closes xs k ≡ false) → closed_after xs ≡ Some (i + 1)
closed_before xs zero a l d e h = absurd (omega arith)
closed_before xs (suc i) a l d e h =
    let p : suc i - 1 ≡ i = omega arith in
    let d' : get_or xs i 0 ≡ 0x2A = rw p at d in
    let here : closes xs i ≡ true = rw (d', e) refl in
    closed_at xs i l here (λ k m. h k (omega arith)) ∙ ap Some (omega arith)
