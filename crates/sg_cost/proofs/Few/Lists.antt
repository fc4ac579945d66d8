-- Lists that are divided at an element.
use Rattle.std.proofs.Common.{◌≡◌, Bool, true, false, cond, ◌||◌, ◌&&◌, List, [], ◌∷◌, ◌++◌, Some, filter, find, refl, sym, ◌∙◌, ap, append_assoc}
use Rattle.std.specs.Prelude.{reverse}
use Rattle.std.specs.List.{list_any}
use Rattle.std.proofs.lemmas.List.{reverse-append}
use Rattle.std.proofs.lemmas.List.Folds.{list_any-append}
use Rattle.sg_facts.specs.sg_base.Lists.{Each}

-- the last element that passes a test
pub record LastOf {A : Type 0} (test : A → Bool) (xs : List A) : Type 0 where
  pub front : List A
  pub one : A
  pub rest : List A
  pub is : xs ≡ front ++ one ∷ rest
  pub passes : test one ≡ true
  pub none : list_any test rest ≡ false

pub last_of : {A : Type 0} (test : A → Bool) (xs : List A) → list_any test xs ≡ true → LastOf test xs
last_of test [] any = absurd (cc any)
last_of {A = A} test (x ∷ xs) any = by (list_any test xs) (test x) refl refl any (last_of test xs)
  where
    by : (later here : Bool) → list_any test xs ≡ later → test x ≡ here → (here || later) ≡ true → (list_any test xs ≡ true → LastOf test xs) → LastOf test (x ∷ xs)
    by true here later is any rest = let l = rest later in record { front = x ∷ l.front; one = l.one; rest = l.rest; is = ap (λ l. x ∷ l) l.is; passes = l.passes; none = l.none }
    by false true later is any rest = record { front = []; one = x; rest = xs; is = refl; passes = is; none = later }
    by false false later is any rest = absurd (cc any)

-- what is found after others of which none passes
pub find_after : {A : Type 0} (test : A → Bool) (xs ys : List A) → list_any test xs ≡ false → find test (xs ++ ys) ≡ find test ys
find_after test [] ys none = refl
find_after test (x ∷ xs) ys none = by (test x) none (find_after test xs ys)
  where
    by : (here : Bool) → (here || list_any test xs) ≡ false → (list_any test xs ≡ false → find test (xs ++ ys) ≡ find test ys) → cond here (Some x) (find test (xs ++ ys)) ≡ find test ys
    by true none rest = absurd (cc none)
    by false none rest = rest none

any_turned : (a b : Bool) → (a || (b || false)) ≡ (b || a)
any_turned true true = refl
any_turned true false = refl
any_turned false true = refl
any_turned false false = refl

pub any_reverse : {A : Type 0} (test : A → Bool) (xs : List A) → list_any test (reverse xs) ≡ list_any test xs
any_reverse test [] = refl
any_reverse test (x ∷ xs) =
    ap (list_any test) (reverse-append (x ∷ []) xs) ∙ list_any-append test (reverse xs) (x ∷ []) ∙ ap (λ b. b || (test x || false)) (any_reverse test xs)
    ∙ any_turned (list_any test xs) (test x)

-- the last that passes is found first from the end
pub find_last : {A : Type 0} (test : A → Bool) (xs : List A) (y : A) (zs : List A) → test y ≡ true → list_any test zs ≡ false → find test (reverse (xs ++ y ∷ zs)) ≡ Some y
find_last test xs y zs passes none =
    ap (find test) (reverse-append xs (y ∷ zs)) ∙ ap (λ l. find test (l ++ reverse xs)) (reverse-append (y ∷ []) zs)
    ∙ ap (find test) (append_assoc (reverse zs) (y ∷ []) (reverse xs))
    ∙ find_after test (reverse zs) (y ∷ reverse xs) (any_reverse test zs ∙ none)
    ∙ ap (λ b. cond b (Some y) (find test (reverse xs))) passes

-- what holds of each that passes a test holds of each that is left
pub each_left : {A : Type 0} (P : A → Type 0) (test : A → Bool) (xs : List A) → Each (λ x. test x ≡ true → P x) xs → Each P (filter test xs)
each_left P test [] all = tt
each_left P test (x ∷ xs) all = by (test x) all.0 (each_left P test xs all.1)
  where
    by : (b : Bool) → (b ≡ true → P x) → Each P (filter test xs) → Each P (cond b (x ∷ filter test xs) (filter test xs))
    by true one rest = (one refl, rest)
    by false one rest = rest

-- any of some is any of all
pub any_left : {A : Type 0} (test : A → Bool) (xs ys : List A) → list_any test xs ≡ true → list_any test (xs ++ ys) ≡ true
any_left test xs ys is = list_any-append test xs ys ∙ ap (λ b. b || list_any test ys) is

or_true : (b : Bool) → (b || true) ≡ true
or_true true = refl
or_true false = refl

pub any_right : {A : Type 0} (test : A → Bool) (xs ys : List A) → list_any test ys ≡ true → list_any test (xs ++ ys) ≡ true
any_right test xs ys is = list_any-append test xs ys ∙ ap (λ b. list_any test xs || b) is ∙ or_true (list_any test xs)

pub record None2 (a b : Bool) : Type 0 where
  pub one : a ≡ false
  pub two : b ≡ false

pub neither : (a b : Bool) → (a || b) ≡ false → None2 a b
neither false false is = record { one = refl; two = refl }
neither false true is = absurd (cc is)
neither true b is = absurd (cc is)

pub none_both : {A : Type 0} (test : A → Bool) (xs ys : List A) → list_any test (xs ++ ys) ≡ false → None2 (list_any test xs) (list_any test ys)
none_both test xs ys is = neither (list_any test xs) (list_any test ys) (sym (list_any-append test xs ys) ∙ is)

pub none_all : {A : Type 0} (test : A → Bool) (xs ys : List A) → list_any test xs ≡ false → list_any test ys ≡ false → list_any test (xs ++ ys) ≡ false
none_all test xs ys one two = list_any-append test xs ys ∙ ap (λ b. b || list_any test ys) one ∙ two

pub both_true : (a b : Bool) → (a && b) ≡ true → (a ≡ true) × (b ≡ true)
both_true true true is = (refl, refl)
both_true true false is = absurd (cc is)
both_true false b is = absurd (cc is)
