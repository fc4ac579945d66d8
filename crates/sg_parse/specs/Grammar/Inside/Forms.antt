-- The pieces of a tree by name, and what holds of a sentence's tree part by part.
use Rattle.std.specs.Prelude.{◌≡◌, ◌≢◌, ◌⊎◌, ◌==◌, false, if◌then◌else◌, ℕ, List, [], ◌∷◌, ◌++◌, None, Some, codes, map, All}
use Rattle.std.specs.declared.option.Option.{Option}
use Rattle.std.specs.List.{flat_map}
use Rattle.sg_rules.specs.sg_lex.Lexeme.{Spelling}
use Rattle.sg_parse.specs.declared.tree.Facts.{Facts}
use Rattle.sg_parse.specs.declared.tree.Ret.{Ret}
use Rattle.sg_parse.specs.declared.tree.Ret.TheVariants.{Plain, Set, Add, Sub}
use Rattle.sg_parse.specs.declared.tree.TypeName.{TypeName}
use Rattle.sg_parse.specs.declared.tree.Param.{Param}
use Rattle.sg_parse.specs.declared.tree.Tree.{Tree}
use Rattle.sg_parse.specs.declared.words.Sort.{Sort}
use Rattle.sg_parse.specs.declared.words.Sort.TheVariants.{Name, Form, Parents, Closing, Flag}
use Rattle.sg_rules.specs.declared.version.Newer.TheVariants.{Second, Third}
use Rattle.sg_parse.specs.Grammar.Pieces.{Piece, word, mark, name, version_number, newer}
use Rattle.sg_parse.specs.Grammar.Sentence.{recovery_word, type_pieces, param_pieces, IsStatement}

-- the mark `{`
abbrev pub open_brace : Piece
open_brace = mark (codes "{")

-- the mark `}`
abbrev pub close_brace : Piece
close_brace = mark (codes "}")

-- the mark `(`
abbrev pub open_bracket : Piece
open_bracket = mark (codes "(")

-- the mark `)`
abbrev pub close_bracket : Piece
close_bracket = mark (codes ")")

-- the mark `=`
abbrev pub equals : Piece
equals = mark (codes "=")

-- the mark `,`
abbrev pub comma : Piece
comma = mark (codes ",")

-- the mark `;`
abbrev pub semicolon : Piece
semicolon = mark (codes ";")

-- the mark `*`
abbrev pub star : Piece
star = mark (codes "*")

-- a fact of the head: its word, `=`, its value, and what follows it
abbrev pub fact_pieces : List ℕ → Sort → Spelling → Piece → List Piece → List Piece
fact_pieces fact sort value end more = word fact ∷ equals ∷ name sort value ∷ end ∷ more

-- the facts of the head, with what follows the value of the last
abbrev pub head_pieces : (a b c d e f g : Spelling) → List Piece → List Piece
head_pieces a b c d e f g more =
    fact_pieces (codes "service") Name a comma (
    fact_pieces (codes "desc_has_parent") Parents b comma (
    fact_pieces (codes "desc_close") Closing c comma (
    fact_pieces (codes "desc_is_global") Flag d comma (
    fact_pieces (codes "desc_block") Flag e comma (
    fact_pieces (codes "desc_has_data") Flag f comma (
    word (codes "resc_has_data") ∷ equals ∷ name Flag g ∷ more))))))

-- the end of the head, and what follows it
abbrev pub last_pieces : List Piece → List Piece
last_pieces more = mark (codes "}") ∷ semicolon ∷ more

-- after the facts a text of a version after the first says when descriptors are rebuilt
abbrev pub end_pieces : Facts → List Piece → List Piece
end_pieces f more =
    if f.version == 1 then last_pieces more
    else comma ∷ word (codes "desc_recover") ∷ equals ∷ word (recovery_word f.eager) ∷ last_pieces more

-- a text of a version after the first says so first, and has the words of its version, and of those before it, for itself after that
abbrev pub of_version : ℕ → List Piece → List Piece
of_version version more =
    if version == 2 then word (codes "version") ∷ equals ∷ version_number Second ∷ comma ∷ map (newer Second) more
    else (if version == 3 then word (codes "version") ∷ equals ∷ version_number Third ∷ comma ∷ map (newer Second) (map (newer Third) more)
    else more)

-- a form with its name in brackets, or the name alone
abbrev pub form_pieces : Option Spelling → Spelling → List Piece
form_pieces form n =
    elim form [
      | None ↦ name Name n ∷ []
      | Some form ↦ name Form form ∷ open_bracket ∷ name Name n ∷ close_bracket ∷ []
    ]

-- parameters after the first, each with its comma
abbrev pub more_params : List Param → List Piece
more_params params = flat_map (λ p. comma ∷ param_pieces p) params

-- parameters, with commas between them
abbrev pub params_pieces : List Param → List Piece
params_pieces [] = []
params_pieces (p ∷ params) = param_pieces p ++ more_params params

-- fields after the first, each with its comma
abbrev pub more_fields : List Spelling → List Piece
more_fields fields = flat_map (λ n. comma ∷ name Name n ∷ []) fields

-- a type and the name of a field in brackets, after the word that says what becomes of the returned word
abbrev pub returned_pieces : Piece → TypeName → Spelling → List Piece
returned_pieces what ty field =
    what ∷ open_bracket ∷ (type_pieces ty ++ comma ∷ name Name field ∷ close_bracket ∷ [])

-- a type has at least one name
abbrev pub IsType : TypeName → Type 0
IsType ty = ty.names ≢ []

-- the type of what a prototype returns has at least one name
abbrev pub IsRet : Ret → Type 0
IsRet (Plain ty) = IsType ty
IsRet (Set ty field) = IsType ty
IsRet (Add ty field) = IsType ty
IsRet (Sub ty field) = IsType ty

-- the head is of version 1, under which descriptors are rebuilt on demand, or of version 2 or 3
abbrev pub IsHead : Facts → Type 0
IsHead f = ((f.version ≡ 1) × (f.eager ≡ false)) ⊎ ((f.version ≡ 2) ⊎ (f.version ≡ 3))

-- the head of a tree is of one of the versions, and each statement has what it has to
abbrev pub IsWellFormed : Tree → Type 0
IsWellFormed tree = IsHead tree.facts × All IsStatement tree.statements
