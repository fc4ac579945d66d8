-- A text is cut at its first LF.
use Rattle.std.proofs.Common.{◌≡◌, ℕ, ◌+◌, ◌-◌, ◌<◌, ◌≤◌, Bool, true, false, not, cond, List, [], ◌∷◌, None, Some, length, length-drop, take, drop, refl, sym, ◌∙◌, ap, subst, arith}
use Rattle.std.specs.Prelude.{nat_lt, position, ◌==◌}
use Rattle.std.specs.List.{onto_first, position_or_len, slice_split}
use Rattle.std.proofs.lemmas.Bool.Decides.{nat_tests}
use Rattle.std.proofs.lemmas.List.{length-take-le, take_all}
use Rattle.std.proofs.lemmas.List.Splits.{slice_split-cons_no, slice_split_first}
use Rattle.sg_entries.specs.Lines.{placed}
use Rattle.sg_entries.specs.Inside.Cutting.{line_feed, lines_from}

-- where no element passes, the list is the one part
no_cut : {A : Type 0} (p : A → Bool) (xs : List A) → length xs ≤ position_or_len p xs → slice_split p xs ≡ xs ∷ []
no_cut p [] most = refl
no_cut p (x ∷ xs) most = by (no_cut p xs) (p x) refl
  where
    by : (length xs ≤ position_or_len p xs → slice_split p xs ≡ xs ∷ []) → (b : Bool) → p x ≡ b → slice_split p (x ∷ xs) ≡ (x ∷ xs) ∷ []
    by rest true e =
        let none : position_or_len p (x ∷ xs) ≡ 0 = ap (λ b. cond (not b) (1 + position_or_len p xs) 0) e in
        absurd (omega (arith, none, most))
    by rest false e =
        let more : position_or_len p (x ∷ xs) ≡ 1 + position_or_len p xs = ap (λ b. cond (not b) (1 + position_or_len p xs) 0) e in
        slice_split-cons_no p x xs e ∙ ap (onto_first x) (rest (omega (arith, more, most)))

-- what is left after so many
whole : (xs : List ℕ) (n : ℕ) → take (length xs - n) (drop n xs) ≡ drop n xs
whole xs n = let left = length-drop n xs in take_all (length xs - n) (drop n xs) (omega (arith, left))

-- a text without LF is one line
pub one_line : (at : ℕ) (text : List ℕ) → position (λ b. b == line_feed) text ≡ None → lines_from at text ≡ record { bytes = text; at = at } ∷ []
one_line at text none = ap (placed at) (no_cut (λ b. b == line_feed) text (by _ refl none))
  where
    by : (b : Bool) → nat_lt (position_or_len (λ b. b == line_feed) text) (length text) ≡ b → cond b (Some (position_or_len (λ b. b == line_feed) text)) None ≡ None
        → length text ≤ position_or_len (λ b. b == line_feed) text
    by true e is = absurd cc
    by false e is = grind (arith, nat_tests, e)

-- else its first line ends before its first LF
pub first_line : (at : ℕ) (text : List ℕ) (end : ℕ) → position (λ b. b == line_feed) text ≡ Some end
    → (lines_from at text ≡ record { bytes = take end text; at = at } ∷ lines_from (at + end + 1) (take (length text - (end + 1)) (drop (end + 1) text))) × (end < length text)
first_line at text end some = by _ refl some
  where
    by : (b : Bool) → nat_lt (position_or_len (λ b. b == line_feed) text) (length text) ≡ b → cond b (Some (position_or_len (λ b. b == line_feed) text)) None ≡ Some end
        → (lines_from at text ≡ record { bytes = take end text; at = at } ∷ lines_from (at + end + 1) (take (length text - (end + 1)) (drop (end + 1) text))) × (end < length text)
    by false e is = absurd cc
    by true e is =
        let same : position_or_len (λ b. b == line_feed) text ≡ end = cc is in
        let within : position_or_len (λ b. b == line_feed) text < length text = grind (arith, nat_tests, e) in
        let here : end < length text = subst (λ n. n < length text) same within in
        let front : length (take end text) ≡ end = length-take-le end text (omega (arith, here)) in
        let cut = slice_split_first (λ b. b == line_feed) text 0 within in (
          ap (placed at) (subst (λ n. slice_split (λ b. b == line_feed) text ≡ take n text ∷ slice_split (λ b. b == line_feed) (drop (n + 1) text)) same cut)
              ∙ ap (λ n. record { bytes = take end text; at = at } ∷ placed (at + n + 1) (slice_split (λ b. b == line_feed) (drop (end + 1) text))) front
              ∙ ap (λ rest. record { bytes = take end text; at = at } ∷ lines_from (at + end + 1) rest) (sym (whole text (end + 1))),
          here,
        )
