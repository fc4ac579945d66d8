-- A place in a text as it is shown: the line that has it, and what stands there. Places are counted in bytes, from 0.
use Rattle.std.specs.Prelude.{ℕ, ◌-◌, ◌==◌, if◌then◌else◌, List, [], ◌∷◌, codes, drop, length, map, slice_get, take, unwrap_or}
use Rattle.std.specs.List.{after_last, before_first, concat, take_while}
use Rattle.sg_input.specs.sg_facts.Words.{line_end}
use Rattle.sg_input.specs.sg_script.sg_lex.Bytes.{is_in_word}

-- a line without a CR at the end
abbrev pub without_return : List ℕ → List ℕ
without_return line = if unwrap_or (slice_get line (length line - 1)) 0 == 13 then take (length line - 1) line else line

-- the line of a place as it stands, without its end: what stands before the place, and the rest; and a line with a mark under the place,
-- before it a space for each byte, and a tab for a tab
abbrev pub place_lines : List ℕ → ℕ → List ℕ
place_lines text at =
    let before = after_last (λ b. b == 10) (take at text) in
    concat (
    before ∷ without_return (before_first (λ b. b == 10) (drop at text)) ∷ line_end
    ∷ map (λ b. if b == 9 then 9 else 32) before ∷ codes "^" ∷ line_end ∷ [])

-- what stands in front of a text: a word, as long as it goes on with letters, digits and underscores, or one byte; or that it is at its end
abbrev pub shown_front : List ℕ → List ℕ
shown_front [] = codes "the end"
shown_front (b ∷ rest) = concat (codes "`" ∷ (if is_in_word b then take_while is_in_word (b ∷ rest) else b ∷ []) ∷ codes "`" ∷ [])
