-- The fields of a new row.
use Rattle.std.proofs.Common.{◌≡◌, ℕ, zero, suc, ◌≤◌, Bool, true, false, cond, not, List, [], ◌∷◌, length, map, replicate, take, refl, ◌∙◌, ap, arith}
use Rattle.std.specs.Prelude.{◌&&◌, nat_le}
use Rattle.std.specs.List.{list_all}
use Rattle.std.proofs.lemmas.Bool.Decides.{nat_tests}
use Rattle.sg_described.specs.sg_facts.sg_base.declared.value.Value.TheVariants.{Word, Text}
use Rattle.sg_described.specs.sg_facts.Allowed.{acts_on_one, each_replays_well, is_allowed, keeps_private, keeps_to, replays_all, steps_make_none}
use Rattle.sg_described.specs.sg_facts.Facts.{Facts, Field}
use Rattle.sg_described.specs.sg_facts.Fields.{empty_field}
use Rattle.sg_described.specs.sg_facts.Limits.{most_fields}
use Rattle.sg_described.specs.Described.{Described}
use Rattle.sg_described.specs.Safe.{IsPlain}
use Rattle.sg_described.proofs.Keeping.Basics.{both_true}

-- ---- there are few

few : (n : ℕ) → nat_le n 8 ≡ true → n ≤ 8
few n is = grind (arith, nat_tests, is)

few_fields : (facts : Facts) → is_allowed facts ≡ true → length facts.fields ≤ 8
few_fields facts allowed =
    let n = length facts.funs in
    let a = nat_le (length facts.fields) 8 && keeps_private facts in
    let six = both_true (a && list_all (keeps_to facts) facts.funs && replays_all facts n && list_all (acts_on_one facts) facts.funs && each_replays_well facts n) (steps_make_none facts) allowed in
    let five = both_true (a && list_all (keeps_to facts) facts.funs && replays_all facts n && list_all (acts_on_one facts) facts.funs) (each_replays_well facts n) six.0 in
    let four = both_true (a && list_all (keeps_to facts) facts.funs && replays_all facts n) (list_all (acts_on_one facts) facts.funs) five.0 in
    let three = both_true (a && list_all (keeps_to facts) facts.funs) (replays_all facts n) four.0 in
    let two = both_true a (list_all (keeps_to facts) facts.funs) three.0 in
    few (length facts.fields) (both_true (nat_le (length facts.fields) 8) (keeps_private facts) two.0).0

pub few_most : (d : Described) → IsPlain d → length d.most ≤ most_fields
few_most d plain = let low = few_fields d.facts plain.allowed in let same = plain.fields in omega (arith, low, same)

-- ---- they are empty

first_zeros : (n m : ℕ) → n ≤ m → take {A = ℕ} n (replicate m 0) ≡ replicate n 0
first_zeros zero m low = refl
first_zeros (suc n) zero low = absurd (omega (arith, low))
first_zeros (suc n) (suc m) low = ap (λ l. 0 ∷ l) (first_zeros n m (omega (arith, low)))

zeros : (fs : List Field) → list_all (λ f. not f.text) fs ≡ true → map Word (replicate (length fs) 0) ≡ map empty_field fs
zeros [] all = refl
zeros (f ∷ fs) all =
    let parts = both_true (not f.text) (list_all (λ f. not f.text) fs) all in
    own f.text parts.0 (zeros fs parts.1)
  where
    own : (b : Bool) → not b ≡ true → map Word (replicate (length fs) 0) ≡ map empty_field fs → Word 0 ∷ map Word (replicate (length fs) 0) ≡ cond b (Text []) (Word 0) ∷ map empty_field fs
    own true is rest = absurd (cc is)
    own false is rest = ap (λ l. Word 0 ∷ l) rest

-- the first of zeros, so many as there are fields, are empty fields
pub empty_row : (d : Described) → IsPlain d → map Word (take (length d.most) (replicate most_fields 0)) ≡ map empty_field d.facts.fields
empty_row d plain =
    ap (map Word) (first_zeros (length d.most) most_fields (few_most d plain)) ∙ ap (λ n. map Word (replicate n 0)) plain.fields ∙ zeros d.facts.fields plain.words
