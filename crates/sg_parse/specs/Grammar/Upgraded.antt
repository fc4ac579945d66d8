-- A tree as one of version 2 at the least.
use Rattle.std.specs.Prelude.{◌≢◌, ◌==◌, if◌then◌else◌, codes, All}
use Rattle.sg_parse.specs.declared.tree.Param.{Param}
use Rattle.sg_parse.specs.declared.tree.Ret.{Ret}
use Rattle.sg_parse.specs.declared.tree.Ret.TheVariants.{Plain, Set, Add, Sub}
use Rattle.sg_parse.specs.declared.tree.Statement.{Statement}
use Rattle.sg_parse.specs.declared.tree.Statement.TheVariants.{One, Two, Proto}
use Rattle.sg_parse.specs.declared.tree.Tree.{Tree}
use Rattle.sg_parse.specs.declared.tree.TypeName.{TypeName}
use Rattle.sg_rules.specs.sg_lex.Lexeme.{Spelling}

-- a tree of version 1 as one of version 2, which rebuilds descriptors on demand; any other as it is
abbrev pub upgraded : Tree → Tree
upgraded tree = record { facts = record tree.facts { version = if tree.facts.version == 1 then 2 else tree.facts.version }; statements = tree.statements }

-- a name isn't the word that version 2 keeps for itself; and so each name of what follows
abbrev pub IsFreeName : Spelling → Type 0
IsFreeName n = n.bytes ≢ codes "desc_data_retval_sub"

-- no name of a type is the kept word
abbrev pub IsFreeType : TypeName → Type 0
IsFreeType ty = All IsFreeName ty.names

-- neither a name of the type nor the name of a parameter is the kept word
abbrev pub IsFreeParam : Param → Type 0
IsFreeParam p = IsFreeType p.ty × IsFreeName p.name

-- no name in what a prototype returns is the kept word
abbrev pub IsFreeRet : Ret → Type 0
IsFreeRet (Plain ty) = IsFreeType ty
IsFreeRet (Set ty field) = IsFreeType ty × IsFreeName field
IsFreeRet (Add ty field) = IsFreeType ty × IsFreeName field
IsFreeRet (Sub ty field) = IsFreeType ty × IsFreeName field

-- no name of a statement that a text of version 1 can have is the kept word
abbrev pub IsFreeStatement : Statement → Type 0
IsFreeStatement (One word fun) = IsFreeName fun
IsFreeStatement (Two word first second) = IsFreeName first × IsFreeName second
IsFreeStatement (Proto ret n params) = IsFreeRet ret × IsFreeName n × All IsFreeParam params
IsFreeStatement statement = Unit {0}

-- no name of a tree is the word that version 2 keeps for itself
abbrev pub IsFree : Tree → Type 0
IsFree tree = IsFreeName tree.facts.service × All IsFreeStatement tree.statements
