-- Which tokens are a sentence of the grammar, and of which tree.
use Rattle.std.specs.Prelude.{◌≡◌, ◌≢◌, ◌⊎◌, ◌==◌, Bool, false, if◌then◌else◌, ℕ, List, [], ◌∷◌, ◌++◌, None, Some, codes, map, replicate, All}
use Rattle.std.specs.List.{flat_map}
use Rattle.sg_rules.specs.sg_lex.Lexeme.{Lexeme, Spelling}
use Rattle.sg_rules.specs.sg_lex.Sentences.{ArePieces, separated}
use Rattle.sg_parse.specs.declared.tree.Facts.{Facts}
use Rattle.sg_parse.specs.declared.tree.Statement.{Statement}
use Rattle.sg_parse.specs.declared.tree.Statement.TheVariants.{One, Two, Proto, External, Most, Unique, Answer}
use Rattle.sg_parse.specs.declared.tree.Ret.{Ret}
use Rattle.sg_parse.specs.declared.tree.Ret.TheVariants.{Plain, Set, Add, Sub}
use Rattle.sg_parse.specs.declared.tree.TypeName.{TypeName}
use Rattle.sg_parse.specs.declared.tree.Param.{Param}
use Rattle.sg_parse.specs.declared.tree.Tree.{Tree}
use Rattle.sg_parse.specs.declared.words.Sort.{Sort}
use Rattle.sg_parse.specs.declared.words.Sort.TheVariants.{Name, One as one_word, Two as two_word, Form, Parents, Closing, Flag}
use Rattle.sg_rules.specs.declared.version.Newer.TheVariants.{Second, Third}
use Rattle.sg_rules.specs.Grammar.Sentence.{rule_pieces, IsRule}
use Rattle.sg_parse.specs.Grammar.Pieces.{Piece, word, mark, name, number, version_number, kept, newer, rule, IsPiece}

-- ---- the pieces of a tree, in order

-- when descriptors are rebuilt
abbrev pub recovery_word : Bool → List ℕ
recovery_word eager = if eager then codes "eager" else codes "demand"

-- the head: its facts in order, each with its value, and what follows it. A text of a version after the first also says when descriptors are
-- rebuilt
abbrev pub facts_pieces : Facts → List Piece → List Piece
facts_pieces f more =
    let fact : List ℕ → Sort → Spelling → List Piece → List Piece
    = λ what sort value behind. word what ∷ mark (codes "=") ∷ name sort value ∷ mark (codes ",") ∷ behind in
    let end : List Piece = mark (codes "}") ∷ mark (codes ";") ∷ more in
    fact (codes "service") Name f.service (
    fact (codes "desc_has_parent") Parents f.parent (
    fact (codes "desc_close") Closing f.close (
    fact (codes "desc_is_global") Flag f.global (
    fact (codes "desc_block") Flag f.block (
    fact (codes "desc_has_data") Flag f.has_data (
    word (codes "resc_has_data") ∷ mark (codes "=") ∷ name Flag f.resc_data ∷
    (if f.version == 1 then end
    else mark (codes ",") ∷ word (codes "desc_recover") ∷ mark (codes "=") ∷ word (recovery_word f.eager) ∷ end)))))))

-- names, and then stars
abbrev pub type_pieces : TypeName → List Piece
type_pieces ty = map (name Name) ty.names ++ replicate ty.stars (mark (codes "*"))

-- a parameter: its type, and its name, which stands alone or in brackets after a form
abbrev pub param_pieces : Param → List Piece
param_pieces p =
    type_pieces p.ty ++ (elim p.form [
      | None ↦ name Name p.name ∷ []
      | Some form ↦ name Form form ∷ mark (codes "(") ∷ name Name p.name ∷ mark (codes ")") ∷ []
    ])

-- what stands before a prototype's name: a type; or a word that says what becomes of the returned word, and in brackets the type of
-- that and the name of a field
abbrev pub ret_pieces : Ret → List Piece
ret_pieces (Plain ty) = type_pieces ty
ret_pieces (Set ty field) =
    word (codes "desc_data_retval") ∷ mark (codes "(") ∷ (type_pieces ty ++ mark (codes ",") ∷ name Name field ∷ mark (codes ")") ∷ [])
ret_pieces (Add ty field) =
    word (codes "desc_data_retval_add") ∷ mark (codes "(") ∷ (type_pieces ty ++ mark (codes ",") ∷ name Name field ∷ mark (codes ")") ∷ [])
ret_pieces (Sub ty field) =
    kept (codes "desc_data_retval_sub") ∷ mark (codes "(") ∷ (type_pieces ty ++ mark (codes ",") ∷ name Name field ∷ mark (codes ")") ∷ [])

-- a statement: a word with one name or two in brackets, or a prototype; and in a text of version 3 a word with a function, a field and its
-- greatest number, or fields with commas between in brackets, or with a function in brackets and its rules in braces
abbrev pub statement_pieces : Statement → List Piece
statement_pieces (One w fun) = name one_word w ∷ mark (codes "(") ∷ name Name fun ∷ mark (codes ")") ∷ mark (codes ";") ∷ []
statement_pieces (Two w first second) =
    name two_word w ∷ mark (codes "(") ∷ name Name first ∷ mark (codes ",") ∷ name Name second ∷ mark (codes ")") ∷ mark (codes ";") ∷ []
statement_pieces (Proto ret n params) =
    ret_pieces ret
    ++ (name Name n ∷ mark (codes "(") ∷ (separated (mark (codes ",")) param_pieces params ++ mark (codes ")") ∷ mark (codes ";") ∷ []))
statement_pieces (External fun) = kept (codes "sm_external") ∷ mark (codes "(") ∷ name Name fun ∷ mark (codes ")") ∷ mark (codes ";") ∷ []
statement_pieces (Most field most) =
    kept (codes "desc_data_most") ∷ mark (codes "(") ∷ name Name field ∷ mark (codes ",") ∷ number most ∷ mark (codes ")") ∷ mark (codes ";") ∷ []
statement_pieces (Unique fields) =
    kept (codes "desc_data_unique") ∷ mark (codes "(")
    ∷ (separated (mark (codes ",")) (λ field. name Name field ∷ []) fields ++ mark (codes ")") ∷ mark (codes ";") ∷ [])
statement_pieces (Answer fun rules) =
    kept (codes "sm_answer") ∷ mark (codes "(") ∷ name Name fun ∷ mark (codes ")")
    ∷ mark (codes "{") ∷ (map rule (flat_map rule_pieces rules) ++ mark (codes "}") ∷ [])

-- a tree: its head, and then its statements in order. A text of a version after the first says so first, and has the words of its version, and
-- of those before it, for itself after that
abbrev pub tree_pieces : Tree → List Piece
tree_pieces tree =
    let more : List Piece = facts_pieces tree.facts (flat_map statement_pieces tree.statements) in
    word (codes "service_global_info") ∷ mark (codes "=") ∷ mark (codes "{")
    ∷ (if tree.facts.version == 2 then word (codes "version") ∷ mark (codes "=") ∷ version_number Second ∷ mark (codes ",") ∷ map (newer Second) more
    else (if tree.facts.version == 3
    then word (codes "version") ∷ mark (codes "=") ∷ version_number Third ∷ mark (codes ",") ∷ map (newer Second) (map (newer Third) more)
    else more))

-- ---- sentences

-- a prototype has at least one parameter, and each of its types at least one name; there is at least one field that is unique, and at least one
-- rule, and each rule has what it has to
abbrev pub IsStatement : Statement → Type 0
IsStatement (Proto ret n params) =
    (elim ret as (λ r. Type 0) [ Plain ty ↦ ty.names ≢ [] | Set ty field ↦ ty.names ≢ [] | Add ty field ↦ ty.names ≢ [] | Sub ty field ↦ ty.names ≢ [] ])
    × (params ≢ []) × All (λ p. p.ty.names ≢ []) params
IsStatement (Unique fields) = fields ≢ []
IsStatement (Answer fun rules) = (rules ≢ []) × All IsRule rules
IsStatement statement = Unit {0}

-- the tokens are a sentence, and this is its tree: they are, one by one, what the tree wants; the head is of version 1, under which
-- descriptors are rebuilt on demand, or of version 2 or 3
pub record IsSentence (tokens : List Lexeme) (tree : Tree) : Type 0 where
  pub pieces : ArePieces IsPiece tokens (tree_pieces tree)
  pub well_formed : (((tree.facts.version ≡ 1) × (tree.facts.eager ≡ false)) ⊎ ((tree.facts.version ≡ 2) ⊎ (tree.facts.version ≡ 3))) × All IsStatement tree.statements
