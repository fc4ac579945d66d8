-- How pictures are read by those who know nothing of how they were drawn.
use Rattle.std.specs.Prelude.{ℕ, ◌==◌, Bool, true, ◌&&◌, ◌||◌, if◌then◌else◌, nat_eq, nat_le, List, [], ◌∷◌, None, Some, drop, map, codes, bytes_eq}
use Rattle.std.specs.Char.{is_ascii_digit}
use Rattle.std.specs.List.{after_first, filter_map, list_all, list_any, slice_split, starts_with}
use Rattle.std.specs.declared.option.Option.{Option}
use Rattle.sg_draw.specs.Documents.{fixed_part}
use Rattle.sg_draw.specs.Shown.{is_one_of}

-- what a piece of a document between two `<` shows: where it begins with `text`, what stands after its first `>`, and else nothing
abbrev pub shown_in : List ℕ → Option (List ℕ)
shown_in piece = if starts_with nat_eq piece (codes "text") then Some (after_first (λ b. b == 62) piece) else None

-- the texts that a document shows, in order
abbrev pub shown_texts : List ℕ → List (List ℕ)
shown_texts document = filter_map shown_in (slice_split (λ b. b == 60) document)

-- the pieces of a document: what follows each `<` up to the next
abbrev pub pieces : List ℕ → List (List ℕ)
pieces document = drop 1 (slice_split (λ b. b == 60) document)

-- whether a byte is a digit, or one of these
abbrev pub is_digit_or : List ℕ → ℕ → Bool
is_digit_or bytes b = is_ascii_digit b || is_one_of bytes b

-- whether all bytes pass that stand before the first `>`
abbrev pub all_in_tag : (ℕ → Bool) → List ℕ → Bool
all_in_tag test [] = true
all_in_tag test (b ∷ bytes) = (b == 62) || (test b && all_in_tag test bytes)

-- whether a piece is such as a picture may have: its beginning; one of those that are the same in each; a line, with the bytes that lines
-- have; a text, with those that tags of texts have; the end of a text; or the end of the document
abbrev pub is_allowed : List ℕ → Bool
is_allowed piece =
    (starts_with nat_eq piece (codes "svg xmlns=") && list_all (is_digit_or (codes "svg xmln='htp:/w.ordie>\n")) piece)
    || list_any (bytes_eq piece) (pieces fixed_part)
    || (starts_with nat_eq piece (codes "path class=") && list_all (is_digit_or (codes "path clsnbkfwd=MHV'/>\n")) piece)
    || (starts_with nat_eq piece (codes "text class=") && all_in_tag (is_digit_or (codes "text clashy='")) piece)
    || bytes_eq piece (codes "/text>\n")
    || bytes_eq piece (codes "/svg>\n")

-- what stands in lines after marks of this width, and in what follows the last line
abbrev pub column_texts : ℕ → List ℕ → List (List ℕ)
column_texts width bytes = map (drop width) (slice_split (λ b. b == 10) bytes)

-- whether a byte leaves a terminal as it is: it is none below the blank but the end of a line
abbrev pub is_harmless : ℕ → Bool
is_harmless b = nat_le 32 b || (b == 10)
