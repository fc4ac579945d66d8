-- Where no byte is bad, each is a text's.
use Rattle.std.proofs.Common.{◌≡◌, ℕ, ◌+◌, ◌≤◌, Bool, true, false, List, [], ◌∷◌, None, length, position, cond, not, ◌&&◌, refl, arith}
use Rattle.std.specs.List.{list_all, position_or_len}
use Rattle.std.proofs.lemmas.Bool.Decides.{nat_tests}
use Rattle.sg_base.specs.Text.{is_text_byte, is_bad_byte}

past_all : (xs : List ℕ) → length xs ≤ position_or_len is_bad_byte xs → list_all is_text_byte xs ≡ true
past_all [] h = refl
past_all (x ∷ xs) h =
    let at : (b : Bool) → length (x ∷ xs) ≤ cond (not (not b)) (1 + position_or_len is_bad_byte xs) 0 → (b && list_all is_text_byte xs) ≡ true
    = λ b. elim b as (λ v. length (x ∷ xs) ≤ cond (not (not v)) (1 + position_or_len is_bad_byte xs) 0 → (v && list_all is_text_byte xs) ≡ true)
    [ true ↦ λ le. past_all xs (omega arith) | false ↦ λ le. absurd (omega arith) ]
    in at (is_text_byte x) h

pub none_bad : (xs : List ℕ) → position is_bad_byte xs ≡ None → list_all is_text_byte xs ≡ true
none_bad xs h = past_all xs (grind (arith, nat_tests))
