-- What the statements of a text say of greatest numbers and of answers.
use Rattle.std.specs.Prelude.{ℕ, if◌then◌else◌, List, [], None, Some, filter_map, slice_get, unwrap_or}
use Rattle.std.specs.Str.{bytes_eq}
use Rattle.std.specs.declared.option.Option.{Option}
use Rattle.sg_shape.specs.sg_check_statements.sg_parse.declared.tree.Statement.{Statement}
use Rattle.sg_shape.specs.sg_check_statements.sg_parse.declared.tree.Statement.TheVariants.{Proto, Most, Answer}
use Rattle.sg_shape.specs.sg_check_statements.sg_parse.sg_lex.Lexeme.{Spelling}
use Rattle.sg_shape.specs.sg_check_statements.sg_parse.sg_rules.declared.tree.Rule.{Rule}

-- the first that is found in a list
abbrev pub first_in : {A B : Type 0} → (A → Option B) → List A → Option B
first_in found list = slice_get (filter_map found list) 0

-- what a statement says is the greatest number of the field of a name
abbrev pub most_in : List ℕ → Statement → Option Spelling
most_in x s = elim s [ Most field most ↦ if bytes_eq field.bytes x then Some most else None | _ ↦ None ]

-- what the first such statement says
abbrev pub most_said : List ℕ → List Statement → Option Spelling
most_said x statements = first_in (most_in x) statements

-- the rules by which a statement says that the function of a name answers
abbrev pub rules_in : List ℕ → Statement → Option (List Rule)
rules_in f s = elim s [ Answer fun rules ↦ if bytes_eq fun.bytes f then Some rules else None | _ ↦ None ]

-- those of the first such statement; none where there isn't one
abbrev pub rules_said : List ℕ → List Statement → List Rule
rules_said f statements = unwrap_or (first_in (rules_in f) statements) []

-- the place of the name of a function in its prototype
abbrev pub proto_in : List ℕ → Statement → Option ℕ
proto_in f s = elim s [ Proto ret name params ↦ if bytes_eq name.bytes f then Some name.at else None | _ ↦ None ]

abbrev pub proto_place : List ℕ → List Statement → Option ℕ
proto_place f statements = first_in (proto_in f) statements
