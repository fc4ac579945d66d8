-- What stands at the front of a text, case by case.
use Rattle.std.proofs.Common.{ℕ, ◌+◌, ◌≤◌, ◌≡◌, Bool, true, false, if◌then◌else◌, Option, None, Some, List, [], ◌∷◌, refl, arith}
use Rattle.std.specs.Prelude.{◌==◌, not, slice_index}
use Rattle.std.specs.List.{prefix_len}
use Rattle.sg_lex.specs.declared.token.TokenKind.TheVariants.{Text}
use Rattle.std.specs.Char.{is_ascii_digit}
use Rattle.sg_base.specs.Text.{is_text_byte}
use Rattle.sg_lex.specs.declared.front.Front.{Front}
use Rattle.sg_lex.specs.declared.front.Front.TheVariants.{Ended, Gap, Token, Fault}
use Rattle.sg_lex.specs.Bytes.{begins_word}
use Rattle.sg_lex.specs.Table.{is_blank, is_mark}
use Rattle.sg_lex.specs.Fronts.{front_of, closed_after}
use Rattle.sg_lex.specs.Inside.Fronts.{quote_front, slash_front, block_front}

-- a choice has what either side has under its test
pub pick : (P : Front → Type 0) (t : Bool) (x y : Front) → (t ≡ true → P x) → (t ≡ false → P y) → P (if t then x else y)
pick P true x y f g = f refl
pick P false x y f g = g refl

-- a gap and a token have bytes
abbrev pub HasBytes : Front → Type 0
HasBytes Ended = Unit {0}
HasBytes (Gap n) = 1 ≤ n
HasBytes (Token kind n) = 1 ≤ n
HasBytes Fault = Unit {0}

block_has_bytes : (o : Option ℕ) → HasBytes (block_front o)
block_has_bytes None = tt
block_has_bytes (Some n) = omega arith

slash_has_bytes : (bs : List ℕ) → HasBytes (slash_front bs)
slash_has_bytes [] = tt
slash_has_bytes (b ∷ bs) =
    pick HasBytes (b == 0x2F) (Gap (2 + prefix_len (λ c. not (c == 0x0A)) bs)) (if b == 0x2A then block_front (closed_after bs) else Fault)
    (λ e. omega arith)
    (λ e. pick HasBytes (b == 0x2A) (block_front (closed_after bs)) Fault (λ f. block_has_bytes (closed_after bs)) (λ f. tt))

quote_has_bytes : (bs : List ℕ) → HasBytes (quote_front bs)
quote_has_bytes bs =
    let n = prefix_len is_text_byte bs in
    pick HasBytes (slice_index bs n == 0x22) (Token Text (n + 2)) Fault (λ e. omega arith) (λ e. tt)

pub has_bytes : (bs : List ℕ) → HasBytes (front_of bs)
has_bytes [] = tt
has_bytes (b ∷ bs) =
    pick HasBytes (is_blank b) _ _ (λ e. omega arith)
    (λ e. pick HasBytes (begins_word b) _ _ (λ f. omega arith)
    (λ f. pick HasBytes (is_ascii_digit b) _ _ (λ g. omega arith)
    (λ g. pick HasBytes (is_mark b) _ _ (λ h. omega arith)
    (λ h. pick HasBytes (b == 0x22) _ _ (λ i. quote_has_bytes bs)
    (λ i. pick HasBytes (b == 0x2F) (slash_front bs) Fault (λ j. slash_has_bytes bs) (λ j. tt))))))
