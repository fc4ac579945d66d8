-- Trees without the places of their names.
use Rattle.std.specs.Prelude.{map}
use Rattle.std.specs.Option.{option_map}
use Rattle.sg_parse.specs.declared.tree.Facts.{Facts}
use Rattle.sg_parse.specs.declared.tree.Statement.{Statement}
use Rattle.sg_parse.specs.declared.tree.Statement.TheVariants.{One, Two, Proto, External, Most, Unique, Answer}
use Rattle.sg_parse.specs.declared.tree.Ret.{Ret}
use Rattle.sg_parse.specs.declared.tree.Ret.TheVariants.{Plain, Set, Add, Sub}
use Rattle.sg_parse.specs.declared.tree.TypeName.{TypeName}
use Rattle.sg_parse.specs.declared.tree.Param.{Param}
use Rattle.sg_parse.specs.declared.tree.Tree.{Tree}
use Rattle.sg_rules.specs.Grammar.Plain.{plain_rules}
-- a name or a number at place 0
pub use Rattle.sg_rules.specs.Grammar.Plain.{plain_name}

-- a type with each name at place 0
abbrev pub plain_type : TypeName → TypeName
plain_type ty = record { names = map plain_name ty.names; stars = ty.stars }

-- a parameter with each name at place 0
abbrev pub plain_param : Param → Param
plain_param p = record { ty = plain_type p.ty; form = option_map plain_name p.form; name = plain_name p.name }

-- what a prototype returns, with each name at place 0
abbrev pub plain_ret : Ret → Ret
plain_ret (Plain ty) = Plain (plain_type ty)
plain_ret (Set ty field) = Set (plain_type ty) (plain_name field)
plain_ret (Add ty field) = Add (plain_type ty) (plain_name field)
plain_ret (Sub ty field) = Sub (plain_type ty) (plain_name field)

-- a statement with each name at place 0
abbrev pub plain_statement : Statement → Statement
plain_statement (One word fun) = One (plain_name word) (plain_name fun)
plain_statement (Two word first second) = Two (plain_name word) (plain_name first) (plain_name second)
plain_statement (Proto ret n params) = Proto (plain_ret ret) (plain_name n) (map plain_param params)
plain_statement (External fun) = External (plain_name fun)
plain_statement (Most field most) = Most (plain_name field) (plain_name most)
plain_statement (Unique fields) = Unique (map plain_name fields)
plain_statement (Answer fun rules) = Answer (plain_name fun) (plain_rules rules)

-- the facts of a head with each name at place 0
abbrev pub plain_facts : Facts → Facts
plain_facts f = record {
  version = f.version;
  service = plain_name f.service;
  parent = plain_name f.parent;
  close = plain_name f.close;
  global = plain_name f.global;
  block = plain_name f.block;
  has_data = plain_name f.has_data;
  resc_data = plain_name f.resc_data;
  eager = f.eager;
}

-- a tree with each name at place 0: two trees are equal but for places where these are equal
abbrev pub plain : Tree → Tree
plain tree = record { facts = plain_facts tree.facts; statements = map plain_statement tree.statements }
