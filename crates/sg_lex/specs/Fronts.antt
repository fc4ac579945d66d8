-- What stands at the front of a text, by the table of tokens.
use Rattle.std.specs.Prelude.{ℕ, suc, ◌+◌, ◌==◌, ◌&&◌, ◌||◌, not, if◌then◌else◌, List, [], ◌∷◌, None, Some, codes, slice_index}
use Rattle.std.specs.declared.option.Option.{Option}
use Rattle.std.specs.List.{list_any, prefix_len}
use Rattle.std.specs.Option.{option_map}
use Rattle.std.specs.Char.{is_ascii_digit}
use Rattle.sg_base.specs.Text.{is_text_byte}
use Rattle.sg_lex.specs.declared.token.TokenKind.TheVariants.{Word, Number, Text, Mark}
use Rattle.sg_lex.specs.declared.front.Front.{Front}
use Rattle.sg_lex.specs.declared.front.Front.TheVariants.{Ended, Gap, Token, Fault}
use Rattle.sg_lex.specs.Bytes.{begins_word, is_in_word}

-- how many bytes go up to the first `*/` and with it; None where there is none
abbrev pub closed_after : List ℕ → Option ℕ
closed_after (b ∷ c ∷ bs) = if (b == 0x2A) && (c == 0x2F) then Some 2 else option_map suc (closed_after (c ∷ bs))
closed_after bs = None

-- what stands at the front of a text: nothing, bytes between tokens, a token, or a fault
abbrev pub front_of : List ℕ → Front
front_of [] = Ended
front_of (b ∷ bs) =
    -- space, tab, carriage return and line feed stand between tokens
    if (b == 0x20) || (b == 0x09) || (b == 0x0D) || (b == 0x0A) then Gap 1
    else (if begins_word b then Token Word (1 + prefix_len is_in_word bs)
    else (if is_ascii_digit b then Token Number (1 + prefix_len is_ascii_digit bs)
    else (if list_any (λ mark. mark == b) (codes "{}()=,;*$") then Token Mark 1
    -- after a `"`: the bytes that a text may have, and then a `"`
    else (if b == 0x22 then (let n : ℕ = prefix_len is_text_byte bs in if slice_index bs n == 0x22 then Token Text (n + 2) else Fault)
    -- after a `/`: a comment up to the end of its line, or up to the first `*/`; nothing else begins with a `/`
    else (if b == 0x2F then (elim bs [
      | [] ↦ Fault
      | c ∷ cs ↦
          if c == 0x2F then Gap (2 + prefix_len (λ d. not (d == 0x0A)) cs)
          else (if c == 0x2A then (elim (closed_after cs) [ None ↦ Fault | Some n ↦ Gap (2 + n) ])
          else Fault)
    ])
    else Fault)))))
