-- What stands at the front of a text that begins with a given token, blank or comment.
use Rattle.std.proofs.Common.{ℕ, ◌+◌, ◌≤◌, ◌≡◌, Bool, true, Some, List, [], ◌∷◌, ◌++◌, length, take, drop, get_or, refl, sym, ap, ◌∙◌, subst, arith, inl, inr, append_assoc}
use Rattle.std.specs.Prelude.{◌==◌, not}
use Rattle.std.specs.List.{list_all, prefix_len}
use Rattle.std.specs.Char.{is_ascii_digit}
use Rattle.std.proofs.lemmas.Bool.{and_parts, and_from}
use Rattle.std.proofs.lemmas.List.{take-append-drop, length-take-le, get_or_at, length-append}
use Rattle.std.proofs.lemmas.List.Sums.{prefix_len-le-length}
use Rattle.sg_base.specs.Text.{is_text_byte}
use Rattle.sg_lex.specs.declared.token.TokenKind.{TokenKind}
use Rattle.sg_lex.specs.declared.token.TokenKind.TheVariants.{Word, Number, Text, Mark}
use Rattle.sg_lex.specs.declared.front.Front.TheVariants.{Gap, Token}
use Rattle.sg_lex.specs.Bytes.{begins_word, is_in_word}
use Rattle.sg_lex.specs.Table.{is_blank, is_mark, IsToken, IsGap, AtMost, EndsLine, HasNoClose}
use Rattle.sg_lex.specs.Fronts.{front_of, closed_after}
use Rattle.sg_lex.proofs.Classes.{word_not_blank, digit_not_blank, digit_not_word, mark_not_blank, mark_not_word, mark_not_digit}
use Rattle.sg_lex.proofs.Runs.{all_front, all_longest, all_exact, line_exact}
use Rattle.sg_lex.proofs.Comments.{closed_first}

-- the longest token of a class is all that is of the class
run_exact : (p : ℕ → Bool) (kind : TokenKind) (b : ℕ) (bs behind : List ℕ) → list_all p bs ≡ true
    → ((cs : List ℕ) → list_all p cs ≡ true → IsToken kind (b ∷ cs)) → AtMost (length (b ∷ bs)) (b ∷ bs ++ behind)
    → prefix_len p (bs ++ behind) ≡ length bs
run_exact p kind b bs behind e make most =
    let text : List ℕ = bs ++ behind in
    let n : ℕ = prefix_len p text in
    let fits : n ≤ length text = prefix_len-le-length p text in
    let long : length (take n text) ≡ n = length-take-le n text fits in
    let high : length (b ∷ take n text) ≤ length (b ∷ bs)
    = most kind (b ∷ take n text) (drop n text) (ap (λ xs. b ∷ xs) (sym (take-append-drop n text))) (make (take n text) (all_front p text)) in
    let low : length bs ≤ n = all_longest p bs behind e in
    omega arith

pub front_word : (b : ℕ) (bs behind : List ℕ) → begins_word b ≡ true → prefix_len is_in_word (bs ++ behind) ≡ length bs
    → front_of (b ∷ bs ++ behind) ≡ Token Word (length (b ∷ bs))
front_word b bs behind e f = rw (word_not_blank b e, e, f) (ap (λ n. Token Word n) (omega arith))

pub front_number : (b : ℕ) (bs behind : List ℕ) → is_ascii_digit b ≡ true → prefix_len is_ascii_digit (bs ++ behind) ≡ length bs
    → front_of (b ∷ bs ++ behind) ≡ Token Number (length (b ∷ bs))
front_number b bs behind e f = rw (digit_not_blank b e, digit_not_word b e, e, f) (ap (λ n. Token Number n) (omega arith))

pub front_mark : (b : ℕ) (behind : List ℕ) → is_mark b ≡ true → front_of (b ∷ behind) ≡ Token Mark 1
front_mark b behind e = rw (mark_not_blank b e, mark_not_word b e, mark_not_digit b e, e) refl

pub front_text : (inner behind : List ℕ) → list_all is_text_byte inner ≡ true
    → front_of (0x22 ∷ inner ++ 0x22 ∷ behind) ≡ Token Text (length inner + 2)
front_text inner behind e =
    let run : prefix_len is_text_byte (inner ++ 0x22 ∷ behind) ≡ length inner = all_exact is_text_byte inner 0x22 behind e refl in
    let quote : get_or (inner ++ 0x22 ∷ behind) (length inner) 0 ≡ 0x22 = get_or_at inner 0x22 behind 0 (length inner) refl in
    rw (run, quote) refl

pub token_front : (kind : TokenKind) (bytes behind : List ℕ) → IsToken kind bytes → AtMost (length bytes) (bytes ++ behind)
    → front_of (bytes ++ behind) ≡ Token kind (length bytes)
token_front Word [] behind t most = absurd t
token_front Word (b ∷ bs) behind t most =
    front_word b bs behind t.0 (run_exact is_in_word Word b bs behind t.1 (λ cs a. (t.0, a)) most)
token_front Number [] behind t most = absurd t
token_front Number (b ∷ bs) behind t most =
    let parts : (is_ascii_digit b ≡ true) × (list_all is_ascii_digit bs ≡ true) = and_parts (is_ascii_digit b) (list_all is_ascii_digit bs) t in
    front_number b bs behind parts.0
    (run_exact is_ascii_digit Number b bs behind parts.1 (λ cs a. and_from (is_ascii_digit b) (list_all is_ascii_digit cs) parts.0 a) most)
token_front Text bytes behind (inner, e, a) most =
    let front : front_of ((0x22 ∷ inner ++ 0x22 ∷ []) ++ behind) ≡ Token Text (length inner + 2)
    = rw (append_assoc inner (0x22 ∷ []) behind) (front_text inner behind a) in
    let long : length inner + 2 ≡ length (0x22 ∷ inner ++ 0x22 ∷ []) = omega (arith, length-append inner (0x22 ∷ [])) in
    subst (λ xs. front_of (xs ++ behind) ≡ Token Text (length xs)) (sym e) (front ∙ ap (λ n. Token Text n) long)
token_front Mark bytes behind (b, e, a) most =
    subst (λ xs. front_of (xs ++ behind) ≡ Token Mark (length xs)) (sym e) (front_mark b behind a)

pub front_blank : (b : ℕ) (behind : List ℕ) → is_blank b ≡ true → front_of (b ∷ behind) ≡ Gap 1
front_blank b behind e = rw e refl

front_line : (inner behind : List ℕ) → list_all (λ b. not (b == 0x0A)) inner ≡ true → EndsLine behind
    → front_of ((0x2F ∷ 0x2F ∷ inner) ++ behind) ≡ Gap (length (0x2F ∷ 0x2F ∷ inner))
front_line inner behind a ends = rw (line_exact inner behind a ends) (ap (λ n. Gap n) (omega arith))

front_block : (inner behind : List ℕ) → HasNoClose (inner ++ 0x2A ∷ [])
    → front_of ((0x2F ∷ 0x2A ∷ inner ++ 0x2A ∷ 0x2F ∷ []) ++ behind) ≡ Gap (length (0x2F ∷ 0x2A ∷ inner ++ 0x2A ∷ 0x2F ∷ []))
front_block inner behind first =
    let closed : closed_after (inner ++ 0x2A ∷ 0x2F ∷ behind) ≡ Some (length inner + 2) = closed_first inner behind first in
    rw (append_assoc inner (0x2A ∷ 0x2F ∷ []) behind, closed) (ap (λ n. Gap n) (omega (arith, length-append inner (0x2A ∷ 0x2F ∷ []))))

pub gap_front : (gap behind : List ℕ) → IsGap gap behind → front_of (gap ++ behind) ≡ Gap (length gap)
gap_front gap behind (inl (b, e, a)) = subst (λ xs. front_of (xs ++ behind) ≡ Gap (length xs)) (sym e) (front_blank b behind a)
gap_front gap behind (inr (inl ((inner, e, a), ends))) =
    subst (λ xs. front_of (xs ++ behind) ≡ Gap (length xs)) (sym e) (front_line inner behind a ends)
gap_front gap behind (inr (inr (inner, e, first))) =
    subst (λ xs. front_of (xs ++ behind) ≡ Gap (length xs)) (sym e) (front_block inner behind first)
