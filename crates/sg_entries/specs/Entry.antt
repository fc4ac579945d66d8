-- Which bytes are the line of an entry, and of which one.
use Rattle.std.specs.Prelude.{◌≡◌, ◌≤◌, ◌&&◌, ℕ, Bool, List, [], ◌∷◌, ◌++◌, None, Some, length, codes}
use Rattle.std.specs.List.{flat_map, list_any}
use Rattle.std.specs.Str.{bytes_eq}
use Rattle.std.specs.Option.{is_some, option_map_or}
use Rattle.sg_lex.specs.Lexeme.{Spelling}
use Rattle.sg_lex.specs.Sentences.{separated}
use Rattle.sg_entries.specs.declared.tree.WrittenArg.{WrittenArg}
use Rattle.sg_entries.specs.declared.tree.WrittenArg.TheVariants.{Number, Text}
use Rattle.sg_entries.specs.declared.tree.WrittenAnswer.{WrittenAnswer}
use Rattle.sg_entries.specs.declared.tree.WrittenAnswer.TheVariants.{Refused, Ok}
use Rattle.sg_entries.specs.declared.tree.WrittenEntry.{WrittenEntry}
use Rattle.sg_facts.specs.Facts.{Facts, Fun, fun_at, shows_bytes}
use Rattle.sg_facts.specs.Interface.{Declared}
use Rattle.sg_facts.specs.sg_base.Codes.{code_name}
use Rattle.sg_script.specs.Scripts.{declared_fun}
use Rattle.sg_entries.specs.Pieces.{EntryPiece, fixed, number, positive, name, printable, piece_bytes, ArePlaced}

-- ---- the pieces of an entry, in order

-- a text in double quotes
abbrev pub text_pieces : Spelling → List EntryPiece
text_pieces t = fixed (0x22 ∷ []) ∷ printable t ∷ fixed (0x22 ∷ []) ∷ []

-- a number, or a text in double quotes
abbrev pub arg_pieces : WrittenArg → List EntryPiece
arg_pieces arg = elim arg [ Number n ↦ number n ∷ [] | Text t ↦ text_pieces t ]

-- an answer: `refused` and a code; or `ok`, its descriptor where it has one, its words, and its bytes where they are shown
abbrev pub answer_pieces : WrittenAnswer → List EntryPiece
answer_pieces (Refused code) = fixed (codes "refused ") ∷ fixed (code_name code) ∷ []
answer_pieces (Ok desc words bytes) =
    fixed (codes "ok")
    ∷ ((elim desc [ None ↦ [] | Some d ↦ fixed (codes " #") ∷ positive d ∷ [] ])
    ++ flat_map (λ w. fixed (codes " ") ∷ number w ∷ []) words
    ++ (elim bytes [ None ↦ [] | Some t ↦ fixed (codes " ") ∷ text_pieces t ]))

-- an entry: client, number and call, with a comma and a space between its arguments, and the answer
abbrev pub entry_pieces : WrittenEntry → List EntryPiece
entry_pieces e =
    fixed (codes "c") ∷ number e.client ∷ fixed (codes ".") ∷ number e.seq ∷ fixed (codes " ") ∷ name e.name ∷ fixed (codes "(")
    ∷ (separated (fixed (codes ", ")) arg_pieces e.args ++ fixed (codes ")") ∷ fixed (codes " = ") ∷ answer_pieces e.answer)

-- ---- lines

-- an answer of a function that shows its bytes, or doesn't: an Ok has at most four words, and bytes just where they are shown
abbrev pub IsAnswer : Bool → WrittenAnswer → Type 0
IsAnswer shown answer = elim answer [ Refused code ↦ Unit {0} | Ok desc words bytes ↦ (length words ≤ 4) × (is_some bytes ≡ shown) ]

-- whether an Ok of a function with this name shows its bytes: by the function that the interface declares, or where it declares none, by those
-- of all these services
abbrev pub shows_named : List Facts → Declared → List ℕ → Bool
shows_named services i function =
    option_map_or (λ f. shows_bytes (fun_at i.facts.funs f)) (declared_fun i function)
    (list_any (λ (s : Facts). list_any (λ (f : Fun). bytes_eq f.name function && shows_bytes f) s.funs) services)

-- the line is that of this entry: each of its pieces is what it is said to be and stands at its place; the answer is one of its
-- function, by whether a function of a name shows its bytes; and the line has the bytes of the pieces, without a line's end
abbrev pub IsEntry : (List ℕ → Bool) → List ℕ → WrittenEntry → Type 0
IsEntry shows line e =
    (ArePlaced 0 (entry_pieces e) × IsAnswer (shows e.name.bytes) e.answer) × (line ≡ flat_map piece_bytes (entry_pieces e))
