-- How texts stand in a picture.
use Rattle.std.specs.Prelude.{ℕ, ◌/◌, ◌%◌, ◌==◌, Bool, false, ◌&&◌, if◌then◌else◌, nat_le, List, [], ◌∷◌, codes}
use Rattle.std.specs.Fmt.{digit_glyph}
use Rattle.std.specs.List.{flat_map, list_any}

-- whether a byte is printable ASCII
abbrev pub is_printable : ℕ → Bool
is_printable b = nat_le 32 b && nat_le b 126

-- a byte as it is shown: one that is printable by itself, and any other by `\x` and its two digits to the base 16
abbrev pub visible_byte : ℕ → List ℕ
visible_byte b = if is_printable b then b ∷ [] else 92 ∷ 120 ∷ digit_glyph false (b / 16) ∷ digit_glyph false (b % 16) ∷ []

-- bytes as they are shown
abbrev pub visible : List ℕ → List ℕ
visible bytes = flat_map visible_byte bytes

-- a byte as it stands in a document: `<`, `>` and `&` by their names, and any other as it is shown
abbrev pub escaped_byte : ℕ → List ℕ
escaped_byte b =
    if b == 60 then codes "&lt;" else (if b == 62 then codes "&gt;" else (if b == 38 then codes "&amp;" else visible_byte b))

-- bytes as they stand in a document
abbrev pub escaped : List ℕ → List ℕ
escaped bytes = flat_map escaped_byte bytes

-- whether a byte is one of these
abbrev pub is_one_of : List ℕ → ℕ → Bool
is_one_of bytes b = list_any (λ other. other == b) bytes
