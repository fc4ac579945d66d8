-- Which tokens are a script, and of which parts.
use Rattle.std.specs.Prelude.{◌≡◌, Bool, true, not, List, [], ◌∷◌, ◌++◌, codes, map}
use Rattle.std.specs.List.{flat_map, list_all}
use Rattle.std.specs.Option.{option_map_or}
use Rattle.sg_lex.specs.declared.token.TokenKind.TheVariants.{Word, Number as a_number, Text as a_text}
use Rattle.sg_lex.specs.Lexeme.{Lexeme}
use Rattle.sg_lex.specs.Sentences.{ArePieces, separated}
use Rattle.sg_script_parse.specs.declared.tree.WrittenArg.{WrittenArg}
use Rattle.sg_script_parse.specs.declared.tree.WrittenArg.TheVariants.{Number, Text, Back}
use Rattle.sg_script_parse.specs.declared.tree.WrittenCall.{WrittenCall}
use Rattle.sg_script_parse.specs.declared.tree.Part.{Part}
use Rattle.sg_script_parse.specs.declared.tree.Part.TheVariants.{Setup, Client, Schedule, Stop}
use Rattle.sg_script_parse.specs.Grammar.Pieces.{ScriptPiece, spelt, mark, IsScriptPiece}

-- ---- the pieces of a script, in order

-- a number, a text, or `$` and a number
abbrev pub arg_pieces : WrittenArg → List ScriptPiece
arg_pieces (Number n) = spelt a_number n ∷ []
arg_pieces (Text t) = spelt a_text t ∷ []
arg_pieces (Back n) = mark (codes "$") ∷ spelt a_number n ∷ []

-- a name, and arguments in brackets
abbrev pub call_pieces : WrittenCall → List ScriptPiece
call_pieces c =
    spelt Word c.name ∷ mark (codes "(") ∷ (separated (mark (codes ",")) arg_pieces c.args ++ mark (codes ")") ∷ mark (codes ";") ∷ [])

-- a part: its first word, and then calls in braces, or numbers up to a semicolon; of a client its number comes before its calls, and where
-- a `stop` names its service the name comes before its numbers
abbrev pub part_pieces : Part → List ScriptPiece
part_pieces (Setup at calls) =
    spelt Word (record { bytes = codes "setup"; at = at }) ∷ mark (codes "{") ∷ (flat_map call_pieces calls ++ mark (codes "}") ∷ [])
part_pieces (Client at n calls) =
    spelt Word (record { bytes = codes "client"; at = at }) ∷ spelt a_number n
    ∷ mark (codes "{") ∷ (flat_map call_pieces calls ++ mark (codes "}") ∷ [])
part_pieces (Schedule at numbers) =
    spelt Word (record { bytes = codes "schedule"; at = at }) ∷ (map (spelt a_number) numbers ++ mark (codes ";") ∷ [])
part_pieces (Stop at service numbers) =
    spelt Word (record { bytes = codes "stop"; at = at })
    ∷ (option_map_or (λ s. spelt Word s ∷ []) service [] ++ (map (spelt a_number) numbers ++ mark (codes ";") ∷ []))

-- ---- scripts

-- whether a part, where it is a `stop`, names its service in a script for several services, and names none in one for one
abbrev pub is_named_for : Bool → Part → Bool
is_named_for several part = elim part [ Stop at service numbers ↦ option_map_or (λ s. several) service (not several) | _ ↦ true ]

-- the tokens are a script of these parts, for several services or for one: they are, one by one, what the parts want
abbrev pub IsScriptSentence : Bool → List Lexeme → List Part → Type 0
IsScriptSentence several tokens parts = ArePieces IsScriptPiece tokens (flat_map part_pieces parts) × (list_all (is_named_for several) parts ≡ true)
