-- Sets of fields and their numbers.
use Rattle.std.proofs.Common.{◌≡◌, ℕ, zero, suc, ◌+◌, ◌*◌, ◌/◌, ◌%◌, ◌^◌, ◌<◌, Bool, true, false, List, [], ◌∷◌, length, refl, ◌∙◌, ap, arith}
use Rattle.std.specs.Prelude.{◌==◌, if◌then◌else◌}
use Rattle.std.proofs.lemmas.Bool.{and_parts}
use Rattle.std.proofs.lemmas.Bool.Decides.{nat_tests}
use Rattle.sg_facts.specs.declared.shape.Effect.{Effect}
use Rattle.sg_facts.specs.Facts.{Field}
use Rattle.sg_facts.specs.Fields.{number_of}
use Rattle.sg_facts.specs.Walks.{may_lead}
use Rattle.sg_facts.specs.Inside.Walking.{none_set}
use Rattle.sg_walk.specs.ReachedStates.Inside.Bits.{bits}

bit : (m : ℕ) → (if (m % 2 == 1) then 1 else 0) ≡ m % 2
bit m = grind (arith, nat_tests)

pub number_of-bits : (count m : ℕ) → m < 2 ^ count → number_of (bits count m) ≡ m
number_of-bits zero m small = omega (arith, small)
number_of-bits (suc count) m small =
    let half : m / 2 < 2 ^ count = omega (arith, small) in
    ap (λ n. (if (m % 2 == 1) then 1 else 0) + 2 * n) (number_of-bits count (m / 2) half) ∙ ap (λ b. b + 2 * (m / 2)) (bit m) ∙ omega arith

odd : (n : ℕ) → ((1 + 2 * n) % 2 == 1) ≡ true
odd n = let r : (1 + 2 * n) % 2 ≡ 1 = omega arith in ap (λ k. k == 1) r

even : (n : ℕ) → ((0 + 2 * n) % 2 == 1) ≡ false
even n = let r : (0 + 2 * n) % 2 ≡ 0 = omega arith in ap (λ k. k == 1) r

pub bits-number_of : (set : List Bool) → bits (length set) (number_of set) ≡ set
bits-number_of [] = refl
bits-number_of (true ∷ set) =
    let half : (1 + 2 * number_of set) / 2 ≡ number_of set = omega arith in
    ap (λ b. b ∷ bits (length set) ((1 + 2 * number_of set) / 2)) (odd (number_of set)) ∙ ap (λ n. true ∷ bits (length set) n) half ∙ ap (λ l. true ∷ l) (bits-number_of set)
bits-number_of (false ∷ set) =
    let half : (0 + 2 * number_of set) / 2 ≡ number_of set = omega arith in
    ap (λ b. b ∷ bits (length set) ((0 + 2 * number_of set) / 2)) (even (number_of set)) ∙ ap (λ n. false ∷ bits (length set) n) half ∙ ap (λ l. false ∷ l) (bits-number_of set)

pub number_of-small : (set : List Bool) → number_of set < 2 ^ length set
number_of-small [] = omega arith
number_of-small (true ∷ set) = let p : 2 ^ suc (length set) ≡ 2 * 2 ^ length set = omega arith in omega (arith, number_of-small set, p)
number_of-small (false ∷ set) = let p : 2 ^ suc (length set) ≡ 2 * 2 ^ length set = omega arith in omega (arith, number_of-small set, p)

pub bits-none : (fields : List Field) → bits (length fields) 0 ≡ none_set fields
bits-none [] = refl
bits-none (f ∷ fields) = ap (λ l. false ∷ l) (bits-none fields)

-- effects lead to as many fields as there are
pub length-led : (effects : List (ℕ × Effect)) (x : ℕ) (olds news : List Bool) → may_lead effects x olds news ≡ true → length news ≡ length olds
length-led effects x [] [] leads = refl
length-led effects x [] (n ∷ news) leads = absurd (cc leads)
length-led effects x (o ∷ olds) [] leads = absurd (cc leads)
length-led effects x (o ∷ olds) (n ∷ news) leads = ap suc (length-led effects (x + 1) olds news (and_parts _ (may_lead effects (x + 1) olds news) leads).1)
