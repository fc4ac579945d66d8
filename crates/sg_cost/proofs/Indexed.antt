-- Elements of a list by their places.
use Rattle.std.proofs.Common.{◌≡◌, ℕ, zero, suc, ◌+◌, ◌<◌, ◌≤◌, Bool, true, false, ◌&&◌, List, [], ◌∷◌, ◌++◌, Some, drop, length, max, sym, ◌∙◌, ap, take, arith}
use Rattle.std.proofs.Math.ListN.{set}
use Rattle.std.specs.Prelude.{slice_get, slice_index_or}
use Rattle.std.specs.List.{list_all}
use Rattle.std.proofs.lemmas.List.{set-get_or, set_split, take_more}
use Rattle.sg_cost.specs.Costs.{greatest}
use Rattle.sg_cost.specs.Inside.Lines.{total}
use Rattle.sg_cost.specs.declared.costs.RowCost.{RowCost}
use Rattle.sg_facts.specs.sg_base.Lists.{Each}

-- what holds of each holds at a place
pub each_at : {A : Type 0} (P : A → Type 0) (xs : List A) (n : ℕ) (d : A) → n < length xs → Each P xs → P (slice_index_or xs n d)
each_at P [] n d at all = absurd (omega (arith, at))
each_at P (x ∷ xs) zero d at all = all.0
each_at P (x ∷ xs) (suc n) d at all = each_at P xs n d (omega (arith, at)) all.1

pub each_more : {A : Type 0} (P : A → Type 0) (xs : List A) (x : A) → Each P xs → P x → Each P (xs ++ x ∷ [])
each_more P [] x all one = (one, tt)
each_more P (y ∷ xs) x all one = (all.0, each_more P xs x all.1 one)

-- one that passes, after others that do
pub all_more : {A : Type 0} (test : A → Bool) (xs : List A) (x : A) → list_all test xs ≡ true → test x ≡ true → list_all test (xs ++ x ∷ []) ≡ true
all_more test [] x all one = ap (λ b. b && true) one
all_more test (y ∷ xs) x all one = by (test y) all (all_more test xs x)
  where
    by : (b : Bool) → (b && list_all test xs) ≡ true → (list_all test xs ≡ true → test x ≡ true → list_all test (xs ++ x ∷ []) ≡ true) → (b && list_all test (xs ++ x ∷ [])) ≡ true
    by true all rest = rest all one
    by false all rest = absurd (cc all)

-- a list is divided at a place
pub divided : {A : Type 0} (xs : List A) (n : ℕ) (x : A) → n < length xs → x ≡ slice_index_or xs n x → xs ≡ take n xs ++ x ∷ drop (suc n) xs
divided xs n x at own = sym (set-get_or xs n x) ∙ ap (set xs n) (sym own) ∙ set_split xs n x at

pub one_more : {A : Type 0} (xs : List A) (n : ℕ) (x : A) → n < length xs → x ≡ slice_index_or xs n x → take (n + 1) xs ≡ take n xs ++ x ∷ []
one_more xs n x at own = take_more xs n x at ∙ ap (λ y. take n xs ++ y ∷ []) (sym own)

-- what is read at a place is what stands there
pub read_at : {A : Type 0} (xs : List A) (n : ℕ) (d x : A) → slice_get xs n ≡ Some x → slice_index_or xs n d ≡ x
read_at [] n d x is = absurd (cc is)
read_at (y ∷ xs) zero d x is = cc is
read_at (y ∷ xs) (suc n) d x is = read_at xs n d x is

-- nothing is read from the length on
pub none_past : {A : Type 0} (xs : List A) (n : ℕ) (x : A) → length xs ≤ n → slice_get xs n ≡ Some x → ⊥
none_past [] n x past is = cc is
none_past (y ∷ xs) zero x past is = omega (arith, past)
none_past (y ∷ xs) (suc n) x past is = none_past xs n x (omega (arith, past)) is

-- ---- sums

pub total_more : (costs : List RowCost) (c : RowCost) → total (costs ++ c ∷ []) ≡ total costs + c.walk
total_more [] c = omega arith
total_more (d ∷ costs) c = let rest = total_more costs c in omega (arith, rest)

pub greatest_more : (ns : List ℕ) (n : ℕ) → greatest (ns ++ n ∷ []) ≡ max (greatest ns) n
greatest_more [] n = omega arith
greatest_more (m ∷ ns) n = let rest = greatest_more ns n in omega (arith, rest)
