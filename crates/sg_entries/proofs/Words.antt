-- The words for codes: a word has one code, and what begins one is found.
use Rattle.std.proofs.Common.{◌≡◌, ℕ, zero, suc, Bool, true, false, List, [], ◌∷◌, ◌++◌, length, take, drop, find, refl, sym, ap, subst, ◌∙◌, take-append-drop, inl, inr}
use Rattle.std.specs.Prelude.{Some}
use Rattle.std.specs.List.{list_any}
use Rattle.std.specs.Str.{bytes_eq}
use Rattle.std.specs.Cmp.Lexicographic.{bytes_decides}
use Rattle.std.proofs.lemmas.Bool.{cases_Bool}
use Rattle.sg_facts.specs.sg_base.declared.reply.Code.{Code}
use Rattle.sg_facts.specs.sg_base.declared.reply.Code.TheVariants.{NoDesc, NoParent, BadState, HasChildren, Full, NotOwner, Held, Occupied, NotFound, Overflow, Gap, TooBig, BadName}
use Rattle.sg_facts.specs.sg_base.Codes.{code_name}
use Rattle.sg_entries.specs.Inside.CodeWords.{all_codes, code_of, begins_code}
use Rattle.sg_entries.proofs.Basics.{some_is, none_some}

-- ---- tests over all codes

-- a test that holds of some code
found : (test : Code → Bool) (cs : List Code) (code : Code) → find test cs ≡ Some code → test code ≡ true
found test [] code e = none_some _ code e
found test (c ∷ cs) code e =
    elim (cases_Bool (test c)) as (λ x. test code ≡ true) [
      | inl t ↦ let g : Some c ≡ Some code = rw t at e in subst (λ x. test x ≡ true) (some_is c code g) t
      | inr t ↦ let g : find test cs ≡ Some code = rw t at e in found test cs code g
    ]

record Some_code (test : Code → Bool) : Type 0 where
  code : Code
  is : test code ≡ true

some_code : (test : Code → Bool) (cs : List Code) → list_any test cs ≡ true → Some_code test
some_code test [] e = absurd (let f : false ≡ true = e in cc)
some_code test (c ∷ cs) e =
    elim (cases_Bool (test c)) as (λ x. Some_code test) [
      | inl t ↦ record { code = c; is = t }
      | inr t ↦ some_code test cs (rw t at e)
    ]

hit : (test : Code → Bool) (c : Code) (cs : List Code) → test c ≡ true → list_any test (c ∷ cs) ≡ true
hit test c cs t = rw t refl

miss : (test : Code → Bool) (c : Code) (cs : List Code) → list_any test cs ≡ true → list_any test (c ∷ cs) ≡ true
miss test c cs t =
    elim (cases_Bool (test c)) as (λ x. list_any test (c ∷ cs) ≡ true) [
      | inl h ↦ rw h refl
      | inr h ↦ rw h t
    ]

-- codes from a place on
at_least : (test : Code → Bool) (n : ℕ) → list_any test (drop n all_codes) ≡ true → list_any test all_codes ≡ true
at_least test n e = some_of all_codes n e
  where
    some_of : (cs : List Code) (n : ℕ) → list_any test (drop n cs) ≡ true → list_any test cs ≡ true
    some_of cs zero e = e
    some_of [] (suc n) e = e
    some_of (c ∷ cs) (suc n) e = miss test c cs (some_of cs n e)

pub any_code : (test : Code → Bool) (code : Code) → test code ≡ true → list_any test all_codes ≡ true
any_code test NoDesc t = at_least test 0 (hit test NoDesc (drop 1 all_codes) t)
any_code test NoParent t = at_least test 1 (hit test NoParent (drop 2 all_codes) t)
any_code test BadState t = at_least test 2 (hit test BadState (drop 3 all_codes) t)
any_code test HasChildren t = at_least test 3 (hit test HasChildren (drop 4 all_codes) t)
any_code test Full t = at_least test 4 (hit test Full (drop 5 all_codes) t)
any_code test NotOwner t = at_least test 5 (hit test NotOwner (drop 6 all_codes) t)
any_code test Held t = at_least test 6 (hit test Held (drop 7 all_codes) t)
any_code test Occupied t = at_least test 7 (hit test Occupied (drop 8 all_codes) t)
any_code test NotFound t = at_least test 8 (hit test NotFound (drop 9 all_codes) t)
any_code test Overflow t = at_least test 9 (hit test Overflow (drop 10 all_codes) t)
any_code test Gap t = at_least test 10 (hit test Gap (drop 11 all_codes) t)
any_code test TooBig t = at_least test 11 (hit test TooBig (drop 12 all_codes) t)
any_code test BadName t = at_least test 12 (hit test BadName (drop 13 all_codes) t)

-- ---- words

pub word_read : (bytes : List ℕ) (code : Code) → code_of bytes ≡ Some code → bytes ≡ code_name code
word_read bytes code e = (bytes_decides bytes (code_name code)).0 (found (λ code. bytes_eq bytes (code_name code)) all_codes code e)

pub read_word : (code : Code) → code_of (code_name code) ≡ Some code
read_word NoDesc = refl
read_word NoParent = refl
read_word BadState = refl
read_word HasChildren = refl
read_word Full = refl
read_word NotOwner = refl
read_word Held = refl
read_word Occupied = refl
read_word NotFound = refl
read_word Overflow = refl
read_word Gap = refl
read_word TooBig = refl
read_word BadName = refl

take_front : (xs ys : List ℕ) → take (length xs) (xs ++ ys) ≡ xs
take_front [] ys = refl
take_front (x ∷ xs) ys = ap (λ v. x ∷ v) (take_front xs ys)

pub word_begun : (front rest : List ℕ) (code : Code) → front ++ rest ≡ code_name code → begins_code front ≡ true
word_begun front rest code e =
    any_code (λ code. bytes_eq front (take (length front) (code_name code))) code
    ((bytes_decides front (take (length front) (code_name code))).1 (sym (take_front front rest) ∙ ap (take (length front)) e))

pub record Word (front : List ℕ) : Type 0 where
  pub code : Code
  pub rest : List ℕ
  pub is : front ++ rest ≡ code_name code

pub begun_word : (front : List ℕ) → begins_code front ≡ true → Word front
begun_word front e =
    let s = some_code (λ code. bytes_eq front (take (length front) (code_name code))) all_codes e in
    let f : front ≡ take (length front) (code_name s.code) = (bytes_decides front (take (length front) (code_name s.code))).0 s.is in
    record {
      code = s.code;
      rest = drop (length front) (code_name s.code);
      is = ap (λ v. v ++ drop (length front) (code_name s.code)) f ∙ take-append-drop (length front) (code_name s.code);
    }
