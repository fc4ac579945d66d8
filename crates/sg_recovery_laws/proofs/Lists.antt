-- Facts of the elements of lists.
use Rattle.std.proofs.Common.{◌≡◌, ℕ, zero, suc, ◌<◌, List, [], ◌∷◌, ◌++◌, length, subst, arith}
use Rattle.std.specs.List.{Contains}
use Rattle.std.specs.Prelude.{slice_index_or}
use Rattle.sg_facts.specs.sg_base.Lists.{Each}

-- what holds of each element holds of one of them
pub each_contains : {A : Type 0} (P : A → Type 0) (xs : List A) (x : A) → Each P xs → Contains xs x → P x
each_contains {A = A} P xs x all c = at xs c.0 all c.1 c.2
  where
    at : (ys : List A) (k : ℕ) → Each P ys → k < length ys → slice_index_or ys k x ≡ x → P x
    at [] k all lt e = absurd (omega (arith, lt))
    at (y ∷ ys) zero all lt e = subst P e all.0
    at (y ∷ ys) (suc k) all lt e = at ys k all.1 (omega (arith, lt)) e

pub each_map : {A : Type 0} (P Q : A → Type 0) (xs : List A) → ((x : A) → P x → Q x) → Each P xs → Each Q xs
each_map P Q [] so all = tt
each_map P Q (x ∷ xs) so all = (so x all.0, each_map P Q xs so all.1)

pub each_both : {A : Type 0} (P Q : A → Type 0) (xs : List A) → Each P xs → Each Q xs → Each (λ x. P x × Q x) xs
each_both P Q [] one other = tt
each_both P Q (x ∷ xs) one other = ((one.0, other.0), each_both P Q xs one.1 other.1)

pub each_append : {A : Type 0} (P : A → Type 0) (xs ys : List A) → Each P xs → Each P ys → Each P (xs ++ ys)
each_append P [] ys front back = back
each_append P (x ∷ xs) ys front back = (front.0, each_append P xs ys front.1 back)

pub each_split : {A : Type 0} (P : A → Type 0) (xs ys : List A) → Each P (xs ++ ys) → Each P xs × Each P ys
each_split P [] ys all = (tt, all)
each_split P (x ∷ xs) ys all = let both = each_split P xs ys all.1 in ((all.0, both.0), both.1)

pub each_push : {A : Type 0} (P : A → Type 0) (xs : List A) (x : A) → Each P xs → P x → Each P (xs ++ x ∷ [])
each_push P xs x all one = each_append P xs (x ∷ []) all (one, tt)
