-- The pairs of numbers up to a count, and those among them that are named.
use Rattle.std.proofs.Common.{◌≡◌, ℕ, zero, suc, ◌+◌, ◌<◌, ◌≤◌, ◌==◌, Bool, true, false, cond, ◌&&◌, ◌||◌, List, [], ◌∷◌, map, refl, sym, ◌∙◌, ap, arith}
use Rattle.std.specs.Prelude.{filter, nat_le}
use Rattle.std.specs.List.{flat_map, list_all, list_any, range_with_len}
use Rattle.std.proofs.lemmas.Bool.{and_from, and_parts, eqb-false, eqb-true, le-leb, or_left, or_right}
use Rattle.std.proofs.lemmas.List.Folds.{list_all-append}
use Rattle.sg_check_statements.specs.sg_facts.Interface.{has_pair}
use Rattle.sg_check_statements.specs.Shapes.{are_funs, is_fun}
use Rattle.sg_check_statements.proofs.Judged.{any_flat_map, any_map}
use Rattle.sg_shape.specs.ShapeOfText.{in_order, pairs_to}
use Rattle.sg_shape.proofs.Places.{all_kept}

-- ---- within the count

is_within : (count n : ℕ) → 1 ≤ n → n ≤ count → is_fun count n ≡ true
is_within count n first last = and_from (nat_le 1 n) (nat_le n count) (le-leb 1 n first) (le-leb n count last)

row_within : (count a : ℕ) → is_fun count a ≡ true → (b n : ℕ) → 1 ≤ b → b + n ≤ count + 1 → list_all (are_funs count) (map (λ b. (a, b)) (range_with_len b n)) ≡ true
row_within count a first b zero low high = refl
row_within count a first b (suc n) low high =
    and_from (are_funs count (a, b)) (list_all (are_funs count) (map (λ c. (a, c)) (range_with_len (b + 1) n)))
    (and_from (is_fun count a) (is_fun count b) first (is_within count b low (omega arith)))
    (row_within count a first (b + 1) n (omega arith) (omega arith))

rows_within : (count a n : ℕ) → 1 ≤ a → a + n ≤ count + 1 → list_all (are_funs count) (flat_map (λ a. map (λ b. (a, b)) (range_with_len 1 count)) (range_with_len a n)) ≡ true
rows_within count a zero low high = refl
rows_within count a (suc n) low high =
    list_all-append (are_funs count) (map (λ b. (a, b)) (range_with_len 1 count)) (flat_map (λ c. map (λ b. (c, b)) (range_with_len 1 count)) (range_with_len (a + 1) n))
    ∙ and_from (list_all (are_funs count) (map (λ b. (a, b)) (range_with_len 1 count))) (list_all (are_funs count) (flat_map (λ c. map (λ b. (c, b)) (range_with_len 1 count)) (range_with_len (a + 1) n)))
    (row_within count a (is_within count a low (omega arith)) 1 count (omega arith) (omega arith))
    (rows_within count (a + 1) n (omega arith) (omega arith))

-- the pairs that are named are of the numbers up to the count
pub all_within : (named : List (ℕ × ℕ)) (count : ℕ) → list_all (are_funs count) (in_order named count) ≡ true
all_within named count = all_kept (are_funs count) (λ p. has_pair named p.0 p.1) (pairs_to count) (rows_within count 1 count (omega arith) (omega arith))

-- ---- each of them

in_range : (a s n : ℕ) → s ≤ a → a < s + n → list_any (λ x. x == a) (range_with_len s n) ≡ true
in_range a s zero low high = absurd (omega arith)
in_range a s (suc n) low high = by (s == a) refl (λ more. in_range a (s + 1) n more (omega arith))
  where
    by : (b : Bool) → (s == a) ≡ b → (s + 1 ≤ a → list_any (λ x. x == a) (range_with_len (s + 1) n) ≡ true) → (b || list_any (λ x. x == a) (range_with_len (s + 1) n)) ≡ true
    by true told rest = refl
    by false told rest = let apart = eqb-false s a told in rest (omega (arith, apart))

-- what passes stays where all that passes is kept
still_any : {X : Type 0} (test keep : X → Bool) → ((x : X) → test x ≡ true → keep x ≡ true) → (xs : List X) → list_any test xs ≡ true → list_any test (filter keep xs) ≡ true
still_any test keep kept [] some = some
still_any test keep kept (x ∷ xs) some = by (test x) (keep x) refl refl some (λ later. still_any test keep kept xs later)
  where
    by : (b c : Bool) → test x ≡ b → keep x ≡ c → (b || list_any test xs) ≡ true → (list_any test xs ≡ true → list_any test (filter keep xs) ≡ true)
        → list_any test (cond c (x ∷ filter keep xs) (filter keep xs)) ≡ true
    by true true told held is rest = or_left (test x) (list_any test (filter keep xs)) told
    by true false told held is rest = let wrong : true ≡ false = sym (kept x told) ∙ held in absurd (cc wrong)
    by false true told held is rest = or_right (test x) (list_any test (filter keep xs)) (rest is)
    by false false told held is rest = rest is

any_agree : {X : Type 0} (p q : X → Bool) → ((x : X) → p x ≡ q x) → (xs : List X) → list_any p xs ≡ list_any q xs
any_agree p q same [] = refl
any_agree p q same (x ∷ xs) = ap (λ b. b || list_any p xs) (same x) ∙ ap (λ b. q x || b) (any_agree p q same xs)

-- a pair of numbers up to the count is one of their pairs
among : (count a b : ℕ) → 1 ≤ a → a ≤ count → 1 ≤ b → b ≤ count → has_pair (pairs_to count) a b ≡ true
among count a b first last low high =
    any_flat_map (λ (p : ℕ × ℕ). (p.0 == a) && (p.1 == b)) (λ x. map (λ y. (x, y)) (range_with_len 1 count)) (range_with_len 1 count)
    ∙ any_agree (λ x. list_any (λ (p : ℕ × ℕ). (p.0 == a) && (p.1 == b)) (map (λ y. (x, y)) (range_with_len 1 count))) (λ x. x == a) (λ x. row x) (range_with_len 1 count)
    ∙ in_range a 1 count first (omega arith)
  where
    seconds : (x : ℕ) (c : Bool) → (x == a) ≡ c → (ys : List ℕ) → list_any (λ y. (x == a) && (y == b)) ys ≡ (c && list_any (λ y. y == b) ys)
    seconds x true told [] = refl
    seconds x false told [] = refl
    seconds x true told (y ∷ ys) = ap (λ d. (d && (y == b)) || list_any (λ z. (x == a) && (z == b)) ys) told ∙ ap (λ d. (y == b) || d) (seconds x true told ys)
    seconds x false told (y ∷ ys) = ap (λ d. (d && (y == b)) || list_any (λ z. (x == a) && (z == b)) ys) told ∙ seconds x false told ys

    and_true : (c d : Bool) → d ≡ true → (c && d) ≡ c
    and_true true d is = is
    and_true false d is = refl

    row : (x : ℕ) → list_any (λ (p : ℕ × ℕ). (p.0 == a) && (p.1 == b)) (map (λ y. (x, y)) (range_with_len 1 count)) ≡ (x == a)
    row x =
        any_map (λ (p : ℕ × ℕ). (p.0 == a) && (p.1 == b)) (λ y. (x, y)) (range_with_len 1 count)
        ∙ seconds x (x == a) refl (range_with_len 1 count)
        ∙ and_true (x == a) (list_any (λ y. y == b) (range_with_len 1 count)) (in_range b 1 count low (omega arith))

-- a pair that is named, of numbers up to the count, is one of those that are listed
pub listed : (named : List (ℕ × ℕ)) (count a b : ℕ) → 1 ≤ a → a ≤ count → 1 ≤ b → b ≤ count → has_pair named a b ≡ true → has_pair (in_order named count) a b ≡ true
listed named count a b first last low high told =
    still_any (λ (p : ℕ × ℕ). (p.0 == a) && (p.1 == b)) (λ (p : ℕ × ℕ). has_pair named p.0 p.1)
    (λ p is. let parts = and_parts (p.0 == a) (p.1 == b) is in
    ap (λ n. has_pair named n p.1) (eqb-true p.0 a parts.0) ∙ ap (has_pair named a) (eqb-true p.1 b parts.1) ∙ told)
    (pairs_to count) (among count a b first last low high)
