-- What stands at the front of a text, part by part, and what is answered there.
use Rattle.std.specs.Prelude.{ℕ, ◌+◌, ◌-◌, ◌==◌, not, if◌then◌else◌, List, [], ◌∷◌, None, Some, Ok, Err, slice_index, take}
use Rattle.std.specs.declared.option.Option.{Option}
use Rattle.std.specs.List.{prefix_len}
use Rattle.sg_base.specs.Text.{is_text_byte}
use Rattle.sg_lex.specs.declared.token.TokenKind.TheVariants.{Text}
use Rattle.sg_lex.specs.declared.front.Front.{Front}
use Rattle.sg_lex.specs.declared.front.Front.TheVariants.{Ended, Gap, Token, Fault}
use Rattle.sg_lex.specs.Fronts.{closed_after}
use Rattle.sg_lex.specs.Tokens.{Answer}

-- a comment of several lines is closed; else it is a fault
abbrev pub block_front : Option ℕ → Front
block_front None = Fault
block_front (Some n) = Gap (2 + n)

-- after a `/`: a comment up to the end of its line, or up to the first `*/`; nothing else begins with a `/`
abbrev pub slash_front : List ℕ → Front
slash_front [] = Fault
slash_front (b ∷ bs) =
    if b == 0x2F then Gap (2 + prefix_len (λ c. not (c == 0x0A)) bs)
    else (if b == 0x2A then block_front (closed_after bs)
    else Fault)

-- after a `"`: the bytes that a text may have, and then a `"`
abbrev pub quote_front : List ℕ → Front
quote_front bs =
    let n = prefix_len is_text_byte bs in
    if slice_index bs n == 0x22 then Token Text (n + 2) else Fault

-- how many bytes it has
abbrev pub front_len : Front → ℕ
front_len Ended = 0
front_len (Gap n) = n
front_len (Token kind n) = n
front_len Fault = 0

-- no bytes between tokens stand there
abbrev pub IsNoGap : Front → Type 0
IsNoGap (Gap n) = ⊥
IsNoGap Ended = Unit {0}
IsNoGap (Token kind n) = Unit {0}
IsNoGap Fault = Unit {0}

-- what is answered where this stands at the front of a text at a place, if `behind n` is answered after its first byte
-- and n more
abbrev pub answers_at : Front → ℕ → List ℕ → (ℕ → List Answer) → List Answer
answers_at front at text behind =
    elim front [
      | Ended ↦ []
      | Gap n ↦ behind (n - 1)
      | Token kind n ↦ Ok (record { kind = kind; bytes = take n text; at = at }) ∷ behind (n - 1)
      | Fault ↦ Err (record { at = at }) ∷ []
    ]
