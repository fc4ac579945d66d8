-- Numbers of calls over all members, as they are kept.
use Rattle.std.proofs.Common.{◌≡◌, ℕ, ◌+◌, Bool, true, false, cond, List, [], ◌∷◌, ◌++◌, None, Some, length, refl, sym, ◌∙◌, ap, subst, arith}
use Rattle.std.specs.Prelude.{◌==◌, ◌&&◌, ◌||◌, not, take_while}
use Rattle.std.specs.declared.option.Option.{Option}
use Rattle.std.specs.BTreeMap.{BTreeMap}
use Rattle.std.specs.List.{list_any}
use Rattle.std.specs.Option.{unwrap_or}
use Rattle.std.proofs.lemmas.List.Folds.{list_any-append}
use Rattle.std.proofs.lemmas.List.Sums.{take_while-cons}
use Rattle.std.proofs.lemmas.Bool.Decides.{nat_tests}
use Rattle.sg_multi.specs.Inside.Numbers.{AddsNumber, AreKept, IsKept, counted, is_call, kept_number, number_by}
use Rattle.sg_multi.specs.Merged.{MultiEntry, is_of_call, number_over_all, own_in}
use Rattle.sg_multi.specs.declared.numbers.CallKey.{CallKey}
use Rattle.sg_multi.specs.declared.numbers.Numbers.{Numbers}

-- ---- what stands before the first that meets a test

-- where one meets it, more at the end change nothing
before_found : {A : Type 0} (p : A → Bool) (xs ys : List A) → list_any p xs ≡ true → take_while (λ x. not (p x)) (xs ++ ys) ≡ take_while (λ x. not (p x)) xs
before_found p [] ys some = absurd (cc some)
before_found p (x ∷ xs) ys some =
    take_while-cons (λ z. not (p z)) x (xs ++ ys)
    ∙ elim (p x) as (λ b. (b || list_any p xs) ≡ true → cond (not b) (x ∷ take_while (λ z. not (p z)) (xs ++ ys)) [] ≡ cond (not b) (x ∷ take_while (λ z. not (p z)) xs) []) [
      | true ↦ λ h. refl
      | false ↦ λ h. ap (λ l. x ∷ l) (before_found p xs ys h)
    ] some
    ∙ sym (take_while-cons (λ z. not (p z)) x xs)

-- where none meets it, all do
before_none : {A : Type 0} (p : A → Bool) (xs : List A) → list_any p xs ≡ false → take_while (λ x. not (p x)) xs ≡ xs
before_none p [] none = refl
before_none p (x ∷ xs) none =
    take_while-cons (λ z. not (p z)) x xs
    ∙ elim (p x) as (λ b. (b || list_any p xs) ≡ false → cond (not b) (x ∷ take_while (λ z. not (p z)) xs) [] ≡ x ∷ xs) [
      | true ↦ λ h. absurd (cc h)
      | false ↦ λ h. ap (λ l. x ∷ l) (before_none p xs h)
    ] none

-- where the last alone meets it, all before it do
before_last : {A : Type 0} (p : A → Bool) (xs : List A) (y : A) → list_any p xs ≡ false → p y ≡ true → take_while (λ x. not (p x)) (xs ++ y ∷ []) ≡ xs
before_last p [] y none its =
    take_while-cons (λ z. not (p z)) y [] ∙ ap (λ b. cond (not b) (y ∷ take_while (λ z. not (p z)) []) []) its
before_last p (x ∷ xs) y none its =
    take_while-cons (λ z. not (p z)) x (xs ++ y ∷ [])
    ∙ elim (p x) as (λ b. (b || list_any p xs) ≡ false → cond (not b) (x ∷ take_while (λ z. not (p z)) (xs ++ y ∷ [])) [] ≡ x ∷ xs) [
      | true ↦ λ h. absurd (cc h)
      | false ↦ λ h. ap (λ l. x ∷ l) (before_last p xs y h its)
    ] none

any_or : (a b : Bool) → a ≡ true → (a || b) ≡ true
any_or true b is = refl
any_or false b is = absurd (cc is)

or_any : (a : Bool) → (a || true) ≡ true
or_any true = refl
or_any false = refl

or_none : (a : Bool) → (a || false) ≡ a
or_none true = refl
or_none false = refl

any_first : {A : Type 0} (p : A → Bool) (xs : List A) (y : A) → list_any p xs ≡ true → list_any p (xs ++ y ∷ []) ≡ true
any_first p xs y some = list_any-append p xs (y ∷ []) ∙ any_or (list_any p xs) (list_any p (y ∷ [])) some

any_last : {A : Type 0} (p : A → Bool) (xs : List A) (y : A) → p y ≡ true → list_any p (xs ++ y ∷ []) ≡ true
any_last p xs y its = list_any-append p xs (y ∷ []) ∙ ap (λ b. list_any p xs || (b || false)) its ∙ or_any (list_any p xs)

any_same : {A : Type 0} (p : A → Bool) (xs : List A) (y : A) → p y ≡ false → list_any p (xs ++ y ∷ []) ≡ list_any p xs
any_same p xs y its = list_any-append p xs (y ∷ []) ∙ ap (λ b. list_any p xs || (b || false)) its ∙ or_none (list_any p xs)

-- ---- numbers that are kept

same_client : (a b c d e f : ℕ) → ((a == b) && (c == d) && (e == f)) ≡ true → c ≡ d
same_client a b c d e f is = grind (arith, nat_tests)

-- what is kept of a call, with one entry more
kept_of : (before : List MultiEntry) (e : MultiEntry) (q : CallKey) (number : ℕ) (found : Option ℕ) (b : Bool) → is_of_call q.member q.client q.seq e ≡ b
    → number ≡ length (own_in e.entry.call.client before) + 1 → IsKept before q found → IsKept (before ++ e ∷ []) q (cond b (Some (unwrap_or found number)) found)
kept_of before e q number None true its is kept =
    let own : e.entry.call.client ≡ q.client = same_client e.member q.member e.entry.call.client q.client e.entry.call.seq q.seq its in (
      any_last (is_of_call q.member q.client q.seq) before e its,
      is ∙ ap (λ c. length (own_in c before) + 1) own
          ∙ ap (λ l. length (own_in q.client l) + 1) (sym (before_last (is_of_call q.member q.client q.seq) before e kept its)),
    )
kept_of before e q number None false its is kept = any_same (is_of_call q.member q.client q.seq) before e its ∙ kept
kept_of before e q number (Some n) true its is kept = (
  any_first (is_of_call q.member q.client q.seq) before e kept.0,
  kept.1 ∙ ap (λ l. length (own_in q.client l) + 1) (sym (before_found (is_of_call q.member q.client q.seq) before (e ∷ []) kept.0)),
)
kept_of before e q number (Some n) false its is kept = (
  any_first (is_of_call q.member q.client q.seq) before e kept.0,
  kept.1 ∙ ap (λ l. length (own_in q.client l) + 1) (sym (before_found (is_of_call q.member q.client q.seq) before (e ∷ []) kept.0)),
)

pub are_kept_more : (old new : BTreeMap CallKey ℕ) (before : List MultiEntry) (e : MultiEntry) (key : CallKey) (number : ℕ)
    → key ≡ record { member = e.member; client = e.entry.call.client; seq = e.entry.call.seq } → AddsNumber old new key number
    → number ≡ length (own_in e.entry.call.client before) + 1 → AreKept old before → AreKept new (before ++ e ∷ [])
are_kept_more old new before e key number its adds is kept = λ q.
    subst (IsKept (before ++ e ∷ []) q) (sym (adds q))
    (kept_of before e q number (kept_number old q) (is_call key q) (sym (ap (λ k. is_call k q) its)) is (kept q))

number_of : (numbers : Numbers) (merged : List MultiEntry) (q : CallKey) (found : Option ℕ) → counted numbers.clients q.client ≡ length (own_in q.client merged) → IsKept merged q found
    → unwrap_or found (counted numbers.clients q.client + 1) ≡ number_over_all merged q.member q.client q.seq
number_of numbers merged q None count kept =
    ap (λ n. n + 1) count ∙ ap (λ l. length (own_in q.client l) + 1) (sym (before_none (is_of_call q.member q.client q.seq) merged kept))
number_of numbers merged q (Some n) count kept = kept.1

-- those that are kept are the numbers over all members
pub numbers_are : (numbers : Numbers) (merged : List MultiEntry) → AreKept numbers.calls merged → ((client : ℕ) → counted numbers.clients client ≡ length (own_in client merged))
    → (member client seq : ℕ) → number_by numbers member client seq ≡ number_over_all merged member client seq
numbers_are numbers merged kept counts member client seq =
    let q : CallKey = record { member = member; client = client; seq = seq } in
    number_of numbers merged q (kept_number numbers.calls q) (counts client) (kept q)
