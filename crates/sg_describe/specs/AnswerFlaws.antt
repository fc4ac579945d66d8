-- What can be wrong with what a text says of answers, and at which place.
use Rattle.std.specs.Prelude.{ℕ, suc, ◌==◌, Bool, false, ◌&&◌, ◌||◌, not, if◌then◌else◌, List, [], ◌∷◌, ◌++◌, None, Some, codes, is_none, is_some, length}
use Rattle.std.specs.Bool.{then_some}
use Rattle.std.specs.List.{list_all, list_any}
use Rattle.std.specs.Option.{option_map, option_map_or, option_or}
use Rattle.std.specs.Str.{bytes_eq}
use Rattle.std.specs.declared.option.Option.{Option}
use Rattle.sg_shape.specs.sg_facts.Allowed.{is_never, is_replayed, wants_word}
use Rattle.sg_shape.specs.sg_facts.Facts.{Facts, Fun}
use Rattle.sg_shape.specs.sg_facts.Guard.{is_guards}
use Rattle.sg_shape.specs.sg_check_statements.Flaws.{fun_of_name}
use Rattle.sg_shape.specs.sg_check_statements.Params.{has_word}
use Rattle.sg_shape.specs.sg_check_statements.sg_parse.declared.tree.Param.{Param}
use Rattle.sg_shape.specs.sg_check_statements.sg_parse.declared.tree.Statement.{Statement}
use Rattle.sg_shape.specs.sg_check_statements.sg_parse.declared.tree.Statement.TheVariants.{One, Proto, External, Most, Unique, Answer}
use Rattle.sg_shape.specs.sg_check_statements.sg_parse.declared.tree.Tree.{Tree}
use Rattle.sg_shape.specs.sg_check_statements.sg_parse.sg_lex.Lexeme.{Spelling}
use Rattle.sg_shape.specs.sg_check_statements.sg_parse.sg_lex.Numbers.{number_of_digits}
use Rattle.sg_shape.specs.sg_check_statements.sg_parse.sg_rules.declared.tree.Operand.{Operand}
use Rattle.sg_shape.specs.sg_check_statements.sg_parse.sg_rules.declared.tree.Operand.TheVariants.{Number, Argument, GreatestOf, Named}
use Rattle.sg_shape.specs.sg_check_statements.sg_parse.sg_rules.declared.tree.Rule.{Rule}
use Rattle.sg_shape.specs.sg_check_statements.sg_parse.sg_rules.declared.tree.Rule.TheVariants.{Refuse, Wait, Give, GiveRow, GiveFirst}
use Rattle.sg_shape.specs.sg_check_statements.sg_parse.sg_rules.declared.tree.Term.{Term}
use Rattle.sg_shape.specs.sg_check_statements.sg_parse.sg_rules.declared.tree.Test.{Test}
use Rattle.sg_shape.specs.sg_check_statements.sg_parse.sg_rules.declared.tree.Tests.{Tests}
use Rattle.sg_described.specs.Safe.{is_plain_kind}
use Rattle.sg_describe.specs.declared.fault.AnswerFaultKind.{AnswerFaultKind}
use Rattle.sg_describe.specs.declared.fault.AnswerFaultKind.TheVariants.{NotYet, UnknownField, UnknownCode, GuardsCode, NoArgument, TooBig, TwoAnswers, TwoLimits, MayNotBlock, NoWord, EndsWithWord, NotExternal}
use Rattle.sg_describe.specs.Names.{argument_named, code_named, field_number, named}
use Rattle.sg_describe.specs.Said.{first_in, most_said, proto_place, rules_in, rules_said}

-- ---- rules

-- whether digits stand for no number of 64 bits
abbrev pub is_too_big : Spelling → Bool
is_too_big n = is_none (number_of_digits n.bytes)

-- the place of an operand that has a flaw of a kind, in the rules of a function
abbrev pub operand_flaw : AnswerFaultKind → Facts → Fun → Operand → Option ℕ
operand_flaw NotYet facts f o = elim o [ GreatestOf x ↦ Some x.at | _ ↦ None ]
operand_flaw UnknownField facts f o = elim o [ Named n ↦ then_some (is_none (named facts n.bytes)) n.at | _ ↦ None ]
operand_flaw NoArgument facts f o = elim o [ Argument n ↦ then_some (is_none (argument_named f.kinds n.bytes)) n.at | _ ↦ None ]
operand_flaw TooBig facts f o = elim o [ Number n ↦ then_some (is_too_big n) n.at | _ ↦ None ]
operand_flaw kind facts f o = None

-- the first operand of a term that has a flaw, by where an operand has one
abbrev pub term_flaw : (Operand → Option ℕ) → Term → Option ℕ
term_flaw flaw t = option_or (flaw t.first) (elim t.more [ None ↦ None | Some more ↦ flaw more.1 ])

-- the first of a test, and of tests
abbrev pub test_flaw : (Operand → Option ℕ) → Test → Option ℕ
test_flaw flaw t = option_or (term_flaw flaw t.left) (term_flaw flaw t.right)

abbrev pub tests_flaw : (Operand → Option ℕ) → Tests → Option ℕ
tests_flaw flaw when = first_in (test_flaw flaw) when.tests

-- the first operand of a rule that has a flaw
abbrev pub operands_flaw : (Operand → Option ℕ) → Rule → Option ℕ
operands_flaw flaw (Refuse at code when) = tests_flaw flaw when
operands_flaw flaw (Wait at when) = tests_flaw flaw when
operands_flaw flaw (Give at term when) = option_or (term_flaw flaw term) (tests_flaw flaw when)
operands_flaw flaw (GiveRow at picks code) = None
operands_flaw flaw (GiveFirst at terms picks code) = None

-- the place where something is asked of the rows
abbrev pub rows_place : Rule → Option ℕ
rows_place (Refuse at code when) = option_map (λ rows. rows.at) when.rows
rows_place (Wait at when) = option_map (λ rows. rows.at) when.rows
rows_place (Give at term when) = option_map (λ rows. rows.at) when.rows
rows_place (GiveRow at picks code) = Some at
rows_place (GiveFirst at terms picks code) = Some at

-- a flaw of a kind that a rule of a function has, whatever its operands
abbrev pub own_flaw : AnswerFaultKind → Fun → Rule → Option ℕ
own_flaw NotYet f r = rows_place r
own_flaw UnknownCode f r = elim r [ Refuse at code when ↦ then_some (is_none (code_named code.bytes)) code.at | _ ↦ None ]
own_flaw GuardsCode f r = elim r [ Refuse at code when ↦ then_some (option_map_or is_guards (code_named code.bytes) false) code.at | _ ↦ None ]
own_flaw MayNotBlock f r = elim r [ Wait at when ↦ then_some (not f.block || f.creation) at | _ ↦ None ]
own_flaw EndsWithWord f r = elim r [ Give at term when ↦ then_some f.terminal at | _ ↦ None ]
own_flaw kind f r = None

-- the place in a rule of a function that has a flaw of a kind
abbrev pub rule_flaw : AnswerFaultKind → Facts → Fun → Rule → Option ℕ
rule_flaw kind facts f r = option_or (operands_flaw (operand_flaw kind facts f) r) (own_flaw kind f r)

-- ---- functions

-- a rule gives a word, whatever the call
abbrev pub gives_always : Rule → Bool
gives_always r = elim r [ Give at term when ↦ (length when.tests == 0) && is_none when.rows | _ ↦ false ]

-- a function, with its number, is replayed and takes a text or a parent
abbrev pub replays_text : Facts → ℕ → Fun → Bool
replays_text facts n f = is_replayed facts n && not (list_all is_plain_kind f.kinds)

-- a function takes its returned word into a field, and no rule of it always gives one
abbrev pub lacks_word : Fun → List Rule → Bool
lacks_word f rules = wants_word f && not (list_any gives_always rules)

-- whether a function, with its number, has a flaw of a kind that stands at its prototype
abbrev pub is_flawed : AnswerFaultKind → Facts → List Statement → ℕ → Fun → Bool
is_flawed NotYet facts statements n f = replays_text facts n f
is_flawed NoWord facts statements n f = lacks_word f (rules_said f.name statements)
is_flawed kind facts statements n f = false

-- the place of a flaw of a kind in a function, with its number: its prototype, or else a place in its rules
abbrev pub fun_flaw : AnswerFaultKind → Facts → List Statement → ℕ → Fun → Option ℕ
fun_flaw kind facts statements n f =
    option_or (if is_flawed kind facts statements n f then proto_place f.name statements else None)
    (first_in (rule_flaw kind facts f) (rules_said f.name statements))

-- the first of functions, which are numbered from a number on
abbrev pub funs_flaw : AnswerFaultKind → Facts → List Statement → ℕ → List Fun → Option ℕ
funs_flaw kind facts statements n [] = None
funs_flaw kind facts statements n (f ∷ funs) = option_or (fun_flaw kind facts statements n f) (funs_flaw kind facts statements (suc n) funs)

-- ---- statements

-- a parameter that is a text in a field
abbrev pub text_param : Param → Option ℕ
text_param p = then_some ((has_word p.form (codes "desc_data") || has_word p.form (codes "desc_data_add")) && not (p.ty.stars == 0)) p.name.at

-- the word of a statement for queries, or for functions that look at all rows
abbrev pub is_later_word : List ℕ → Bool
is_later_word word = bytes_eq word (codes "sm_query") || bytes_eq word (codes "sm_needs_all")

-- the place in a statement of what can't be judged yet
abbrev pub not_yet_in : Statement → Option ℕ
not_yet_in s = elim s [
  | One word fun ↦ then_some (is_later_word word.bytes) word.at
  | Proto ret name params ↦ first_in text_param params
  | Unique fields ↦ first_in (λ field. Some field.at) fields
  | _ ↦ None
]

-- the place in a statement that has a flaw of a kind, whatever the others
abbrev pub statement_flaw : AnswerFaultKind → Facts → Statement → Option ℕ
statement_flaw NotYet facts s = not_yet_in s
statement_flaw UnknownField facts s = elim s [ Most field most ↦ then_some (is_none (field_number facts field.bytes)) field.at | _ ↦ None ]
statement_flaw TooBig facts s = elim s [ Most field most ↦ then_some (is_too_big most) most.at | _ ↦ None ]
statement_flaw NotExternal facts s = elim s [ External fun ↦ then_some (not (fun_of_name facts fun.bytes).creation) fun.at | _ ↦ None ]
statement_flaw kind facts s = None

-- a statement says a second time, after these, what a function answers, or what the greatest number of a field is
abbrev pub repeats : AnswerFaultKind → List Statement → Statement → Option ℕ
repeats TwoAnswers before s = elim s [ Answer fun rules ↦ then_some (is_some (first_in (rules_in fun.bytes) before)) fun.at | _ ↦ None ]
repeats TwoLimits before s = elim s [ Most field most ↦ then_some (is_some (most_said field.bytes before)) field.at | _ ↦ None ]
repeats kind before s = None

-- the first statement that does, of those after these
abbrev pub repeat_place : AnswerFaultKind → List Statement → List Statement → Option ℕ
repeat_place kind before [] = None
repeat_place kind before (s ∷ statements) = option_or (repeats kind before s) (repeat_place kind (before ++ s ∷ []) statements)

-- ---- the head

-- the fact at the head that can't be judged yet, by the shape: descriptors have parents, go with these, or have files
abbrev pub head_flaw : AnswerFaultKind → Facts → Tree → Option ℕ
head_flaw NotYet facts tree =
    option_or (then_some (not (is_never facts.parents)) tree.facts.parent.at)
    (option_or (then_some facts.subtree tree.facts.close.at) (then_some facts.resc_data tree.facts.resc_data.at))
head_flaw kind facts tree = None
