-- The prototypes of a text, and the functions that they number.
use Rattle.std.specs.Prelude.{ℕ, ◌+◌, if◌then◌else◌, List, [], ◌∷◌, None, Some, map}
use Rattle.std.specs.List.{filter_map}
use Rattle.std.specs.Str.{bytes_eq}
use Rattle.std.specs.declared.option.Option.{Option}
use Rattle.sg_check_statements.specs.sg_parse.declared.tree.Param.{Param}
use Rattle.sg_check_statements.specs.sg_parse.declared.tree.Ret.{Ret}
use Rattle.sg_check_statements.specs.sg_parse.declared.tree.Statement.{Statement}
use Rattle.sg_check_statements.specs.sg_parse.declared.tree.Statement.TheVariants.{Proto}
use Rattle.sg_check_statements.specs.sg_parse.sg_lex.Lexeme.{Spelling}

-- a prototype: what it returns, the function's name, and its parameters, of which the first is the caller
pub record Prototype : Type 0 where
  pub ret : Ret
  pub name : Spelling
  pub params : List Param

-- the prototype that a statement is
abbrev pub proto_in : Statement → Option Prototype
proto_in s = elim s [ Proto ret name params ↦ Some (record { ret = ret; name = name; params = params }) | _ ↦ None ]

-- the prototypes of a text, in their order
abbrev pub protos_of : List Statement → List Prototype
protos_of statements = filter_map proto_in statements

-- the names of prototypes
abbrev pub names_of : List Prototype → List (List ℕ)
names_of protos = map (λ p. p.name.bytes) protos

-- the number of the first of these names that is a name, where they are numbered from a number on; 0 where none is
abbrev pub number_from : ℕ → List (List ℕ) → List ℕ → ℕ
number_from n [] name = 0
number_from n (other ∷ names) name = if bytes_eq other name then n else number_from (n + 1) names name

-- the number of the function of a name: prototypes number the functions of a text from 1, in their order. 0 where none is of the name
abbrev pub function_number : List Statement → List ℕ → ℕ
function_number statements name = number_from 1 (names_of (protos_of statements)) name
