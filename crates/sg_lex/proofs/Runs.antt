-- The bytes of a class at the front of a text.
use Rattle.std.proofs.Common.{ℕ, suc, ◌+◌, ◌≤◌, ◌≡◌, Bool, true, false, List, [], ◌∷◌, ◌++◌, length, take, drop, refl, arith, inl, inr}
use Rattle.std.specs.Prelude.{◌==◌, not}
use Rattle.std.specs.List.{list_all, prefix_len}
use Rattle.std.proofs.lemmas.Bool.{and_parts, and_from, eqb-true, cases_Bool}
use Rattle.sg_lex.specs.Table.{EndsLine}

pub take_one : (n b : ℕ) (bs : List ℕ) → take (1 + n) (b ∷ bs) ≡ b ∷ take n bs
take_one n b bs = let e : 1 + n ≡ suc n = omega arith in rw e refl

pub drop_one : (n b : ℕ) (bs : List ℕ) → drop (1 + n) (b ∷ bs) ≡ drop n bs
drop_one n b bs = let e : 1 + n ≡ suc n = omega arith in rw e refl

-- the bytes of the run are all of the class
pub all_front : (p : ℕ → Bool) (bs : List ℕ) → list_all p (take (prefix_len p bs) bs) ≡ true
all_front p [] = refl
all_front p (b ∷ bs) =
    elim (cases_Bool (p b)) as (λ v. list_all p (take (prefix_len p (b ∷ bs)) (b ∷ bs)) ≡ true) [
      | inl e ↦ rw (e, take_one) (and_from _ _ e (all_front p bs))
      | inr e ↦ rw e refl
    ]

-- no longer front is
pub all_longest : (p : ℕ → Bool) (bs behind : List ℕ) → list_all p bs ≡ true → length bs ≤ prefix_len p (bs ++ behind)
all_longest p [] behind e = omega arith
all_longest p (b ∷ bs) behind e =
    let here : p b ≡ true = (and_parts (p b) (list_all p bs) e).0 in
    let more : length bs ≤ prefix_len p (bs ++ behind) = all_longest p bs behind (and_parts (p b) (list_all p bs) e).1 in
    rw here (omega arith)

-- the run ends where a byte is not of the class
pub all_exact : (p : ℕ → Bool) (bs : List ℕ) (c : ℕ) (behind : List ℕ) → list_all p bs ≡ true → p c ≡ false
    → prefix_len p (bs ++ c ∷ behind) ≡ length bs
all_exact p [] c behind e f = rw f refl
all_exact p (b ∷ bs) c behind e f =
    let here : p b ≡ true = (and_parts (p b) (list_all p bs) e).0 in
    let more : prefix_len p (bs ++ c ∷ behind) ≡ length bs = all_exact p bs c behind (and_parts (p b) (list_all p bs) e).1 f in
    rw (here, more) (omega arith)

-- a line ends after its bytes
pub line_ends : (bs : List ℕ) → EndsLine (drop (prefix_len (λ b. not (b == 0x0A)) bs) bs)
line_ends [] = tt
line_ends (b ∷ bs) =
    elim (cases_Bool (b == 0x0A)) as (λ v. EndsLine (drop (prefix_len (λ c. not (c == 0x0A)) (b ∷ bs)) (b ∷ bs))) [
      | inl e ↦ rw e (eqb-true b 0x0A e)
      | inr e ↦ rw (e, drop_one) (line_ends bs)
    ]

pub line_exact : (bs behind : List ℕ) → list_all (λ b. not (b == 0x0A)) bs ≡ true → EndsLine behind
    → prefix_len (λ b. not (b == 0x0A)) (bs ++ behind) ≡ length bs
line_exact [] [] e f = refl
line_exact [] (c ∷ behind) e f = rw f refl
line_exact (b ∷ bs) behind e f =
    let here : not (b == 0x0A) ≡ true = (and_parts (not (b == 0x0A)) (list_all (λ c. not (c == 0x0A)) bs) e).0 in
    let more : prefix_len (λ c. not (c == 0x0A)) (bs ++ behind) ≡ length bs
    = line_exact bs behind (and_parts (not (b == 0x0A)) (list_all (λ c. not (c == 0x0A)) bs) e).1 f in
    rw (here, more) (omega arith)

-- where all are of the class, all are counted
pub all_whole : (p : ℕ → Bool) (bs : List ℕ) → list_all p bs ≡ true → prefix_len p (bs ++ []) ≡ length bs
all_whole p [] e = refl
all_whole p (b ∷ bs) e =
    let here : p b ≡ true = (and_parts (p b) (list_all p bs) e).0 in
    let more : prefix_len p (bs ++ []) ≡ length bs = all_whole p bs (and_parts (p b) (list_all p bs) e).1 in
    rw (here, more) (omega arith)
