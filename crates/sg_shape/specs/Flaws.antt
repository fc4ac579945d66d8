-- What can be wrong with a text by itself, and at which place.
use Rattle.std.specs.Prelude.{ℕ, ◌==◌, Bool, false, ◌&&◌, ◌||◌, not, if◌then◌else◌, List, [], ◌∷◌, ◌++◌, None, Some, codes, count_by, find, length, nat_le, nat_lt, slice_get, unwrap_or}
use Rattle.std.specs.Bool.{then_some}
use Rattle.std.specs.List.{filter_map, list_all, list_any}
use Rattle.std.specs.Option.{option_map, option_map_or, option_or}
use Rattle.std.specs.Str.{bytes_eq}
use Rattle.std.specs.declared.option.Option.{Option}
use Rattle.sg_check_statements.specs.sg_facts.declared.shape.Effect.{Effect}
use Rattle.sg_check_statements.specs.sg_facts.Allowed.{count_args, each_arg, has_no_parents, is_never, is_text_field, leaves_known, leaves_own}
use Rattle.sg_check_statements.specs.sg_facts.Facts.{Facts, Field, Fun, takes_desc, takes_parent, writes}
use Rattle.sg_check_statements.specs.sg_facts.Limits.{most_fields, most_funs}
use Rattle.sg_check_statements.specs.Effects.{declared_effects, same_effect}
use Rattle.sg_check_statements.specs.Flaws.{fun_of_name, leaves_another}
use Rattle.sg_check_statements.specs.NameSet.{has_name}
use Rattle.sg_check_statements.specs.Params.{has_word, is_caller}
use Rattle.sg_check_statements.specs.Says.{agree, fun_number, has_proto, names_two, says}
use Rattle.sg_check_statements.specs.sg_parse.declared.tree.Param.{Param}
use Rattle.sg_check_statements.specs.sg_parse.declared.tree.Statement.{Statement}
use Rattle.sg_check_statements.specs.sg_parse.declared.tree.Statement.TheVariants.{One, Two, External, Answer}
use Rattle.sg_check_statements.specs.sg_parse.sg_rules.declared.tree.Rule.{Rule}
use Rattle.sg_check_statements.specs.sg_parse.sg_rules.declared.tree.Rule.TheVariants.{Refuse, Wait, Give, GiveRow, GiveFirst}
use Rattle.sg_shape.specs.declared.fault.ShapeFaultKind.{ShapeFaultKind}
use Rattle.sg_shape.specs.declared.fault.ShapeFaultKind.TheVariants.{BadParams, TwoEffects, Contradiction, PrivateLooksAround, QueryTakes, FileWithoutDesc, TextChanged, BlocksOrMakes, StateOfOther, MakesOn, ActsOnNone, NoParents, ReplayWrites, ArgumentLost, ReplayUnknown, RecoverMakes}
use Rattle.sg_shape.specs.Fields.{Use, fields_of_text, first_uses, uses_of}
use Rattle.sg_shape.specs.Limits.{most_params, most_rules}
use Rattle.sg_shape.specs.Prototypes.{Prototype, protos_of}
use Rattle.sg_shape.specs.ShapeOfText.{state_of}

-- the place of the first prototype that passes a test
abbrev pub first_proto : (Prototype → Bool) → List Statement → Option ℕ
first_proto test statements = option_map (λ p. p.name.at) (find test (protos_of statements))

-- ---- how much there is

-- the place of a rule: that of its first word
abbrev pub rule_at : Rule → ℕ
rule_at (Refuse at code when) = at
rule_at (Wait at when) = at
rule_at (Give at term when) = at
rule_at (GiveRow at picks code) = at
rule_at (GiveFirst at terms picks code) = at

-- the first rule of a statement past the greatest number of them
abbrev pub extra_rule : Statement → Option ℕ
extra_rule s = elim s [ Answer fun rules ↦ option_map rule_at (slice_get rules most_rules) | _ ↦ None ]

-- the first prototype past the greatest number of functions; else the first of more than the greatest number of parameters; else the first
-- use of the first field past the greatest number of them; else the first rule of a function past the greatest number of these
abbrev pub limit_place : List Statement → Option ℕ
limit_place statements =
    option_or (option_map (λ p. p.name.at) (slice_get (protos_of statements) most_funs))
    (option_or (first_proto (λ p. nat_lt most_params (length p.params)) statements)
    (option_or (option_map (λ u. u.name.at) (slice_get (first_uses (uses_of statements)) most_fields))
    (slice_get (filter_map extra_rule statements) 0)))

-- ---- names

-- the first of some prototypes that has the name of one before it; the names are those of the prototypes before them all
abbrev pub second_place : List (List ℕ) → List Prototype → Option ℕ
second_place names [] = None
second_place names (p ∷ protos) = if has_name names p.name.bytes then Some p.name.at else second_place (names ++ p.name.bytes ∷ []) protos

-- a name of a function that has no prototype
abbrev pub unknown_name : List Statement → Statement → Option ℕ
unknown_name statements s = elim s [
  | One word fun ↦ then_some (not (has_proto statements fun.bytes)) fun.at
  | External fun ↦ then_some (not (has_proto statements fun.bytes)) fun.at
  | Answer fun rules ↦ then_some (not (has_proto statements fun.bytes)) fun.at
  | Two word first second ↦
      option_or (then_some (not (has_proto statements first.bytes)) first.at)
      (then_some (names_two word.bytes && not (has_proto statements second.bytes)) second.at)
  | _ ↦ None
]

-- the first name of a function that has no prototype
abbrev pub unknown_place : List Statement → Option ℕ
unknown_place statements = slice_get (filter_map (unknown_name statements) statements) 0

-- ---- parameters and fields

-- whether a parameter is a descriptor or a parent
abbrev pub is_id_param : Param → Bool
is_id_param p = has_word p.form (codes "desc") || has_word p.form (codes "parent_desc")

-- whether a parameter is no text where it is a descriptor, a parent or an addend
abbrev pub has_its_type : Param → Bool
has_its_type p = not (is_id_param p || has_word p.form (codes "desc_data_add")) || (p.ty.stars == 0)

-- whether parameters are those of some function: the first is the caller, and at most one of the others is a descriptor or a parent
abbrev pub are_params : List Param → Bool
are_params [] = false
are_params (p ∷ params) = is_caller p && list_all has_its_type params && nat_le (count_by is_id_param params) 1

-- whether the field of a name is a text
abbrev pub is_text_name : List Field → List ℕ → Bool
is_text_name fields name = option_map_or (λ f. f.text) (find (λ f. bytes_eq f.name name) fields) false

-- whether a use has its field as a number where that is a text, or as a text where that is a number
abbrev pub is_mixed : List Field → Use → Bool
is_mixed fields u = option_map_or (λ text. not (agree text (is_text_name fields u.name.bytes))) u.text false

-- the first use of a field that has it otherwise than the field's first use
abbrev pub mixed_place : List Statement → Option ℕ
mixed_place statements = option_map (λ u. u.name.at) (find (is_mixed (fields_of_text statements)) (uses_of statements))

-- ---- what is said of a function

-- whether two effects are on one field, and aren't the same
abbrev pub clash : List ℕ × Effect → List ℕ × Effect → Bool
clash e other = bytes_eq other.0 e.0 && not (same_effect other.1 e.1)

-- whether some field has two of these effects
abbrev pub has_two : List (List ℕ × Effect) → Bool
has_two effects = list_any (λ e. list_any (clash e) effects) effects

-- whether statements say of a function that it leaves two states, or a state beside the one before
abbrev pub contradicts : List Statement → List ℕ → Bool
contradicts statements f =
    option_map_or (λ g. says statements (codes "sm_keep") f || list_any (leaves_another f g) statements) (state_of f statements) false

-- ---- what every shape keeps to

-- whether a function of a shape, with its number, is replayed: it makes a descriptor, or is a recover step
abbrev pub replays : Facts → ℕ → Fun → Bool
replays facts n f = f.creation || list_any (λ s. s.1 == n) facts.steps

-- whether a function of a shape, with its number, has a flaw of a kind
abbrev pub is_forbidden : ShapeFaultKind → Facts → ℕ → Fun → Bool
-- it looks at all rows, in a private service
is_forbidden PrivateLooksAround facts n f = not facts.global && f.all
-- it is a query, and takes a descriptor or a parent
is_forbidden QueryTakes facts n f = f.query && (takes_desc f || takes_parent f)
-- it uses a file, and takes no descriptor
is_forbidden FileWithoutDesc facts n f = f.uses_file && not (takes_desc f)
-- it makes no descriptor, and changes a text
is_forbidden TextChanged facts n f = not f.creation && list_any (λ e. is_text_field facts.fields e.0) f.effects
-- it may block, and makes or ends a descriptor
is_forbidden BlocksOrMakes facts n f = f.block && (f.creation || f.terminal)
-- it leaves the state of a function that leaves another
is_forbidden StateOfOther facts n f = not (leaves_own facts.funs f.leaves)
-- it makes a descriptor, and is a query, or ends or takes one
is_forbidden MakesOn facts n f = f.creation && (f.query || f.terminal || takes_desc f)
-- it neither makes a descriptor nor is a query, and takes none
is_forbidden ActsOnNone facts n f = not f.creation && not f.query && not (takes_desc f)
-- it takes a parent, and descriptors have none
is_forbidden NoParents facts n f = is_never facts.parents && takes_parent f
-- it is replayed, and writes a file
is_forbidden ReplayWrites facts n f = replays facts n f && writes f
-- it is replayed, and one of its arguments goes into no field, or into two
is_forbidden ArgumentLost facts n f = replays facts n f && not (each_arg f.effects (count_args f.kinds))
-- it is replayed, and leaves a field unknown, where descriptors have parents
is_forbidden ReplayUnknown facts n f = replays facts n f && not (has_no_parents facts) && not (list_all (λ e. leaves_known e.1) f.effects)
-- it makes a descriptor, and is a recover step
is_forbidden RecoverMakes facts n f = f.creation && list_any (λ s. s.1 == n) facts.steps
is_forbidden _ facts n f = false

-- ---- prototypes

-- whether a prototype of a text of this shape has a flaw of a kind
abbrev pub is_flawed : ShapeFaultKind → Facts → List Statement → Prototype → Bool
-- its parameters are those of no function
is_flawed BadParams facts statements p = not (are_params p.params)
-- it is said to do two things to a field
is_flawed TwoEffects facts statements p = has_two (declared_effects statements p.name.bytes p.ret p.params)
-- what is said of the state that it leaves isn't one thing
is_flawed Contradiction facts statements p = contradicts statements p.name.bytes
-- its function has the flaw
is_flawed kind facts statements p = is_forbidden kind facts (unwrap_or (fun_number facts.funs p.name.bytes) 0) (fun_of_name facts p.name.bytes)
