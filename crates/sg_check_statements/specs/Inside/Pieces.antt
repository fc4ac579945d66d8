-- The parts of the definitions, by themselves.
use Rattle.std.specs.Prelude.{ℕ, ◌≡◌, Bool, true, false, ◌&&◌, not, if◌then◌else◌, List, [], ◌∷◌, ◌++◌, None, Some, codes, map}
use Rattle.std.specs.declared.option.Option.{Option}
use Rattle.std.specs.Bool.{then_some}
use Rattle.std.specs.List.{list_any}
use Rattle.std.specs.Option.{is_none, option_map_or, option_or}
use Rattle.std.specs.Str.{bytes_eq}
use Rattle.sg_facts.specs.declared.shape.Effect.{Effect}
use Rattle.sg_facts.specs.declared.shape.Effect.TheVariants.{SetCaller, SetRet, AddRet, Clear, SubOne, SubRet}
use Rattle.sg_facts.specs.Facts.{Facts, Fun}
use Rattle.sg_facts.specs.Fits.{IsReached, needs_reach}
use Rattle.sg_facts.specs.Interface.{Declared, has_pair}
use Rattle.sg_facts.specs.Words.{field_name, close_word, flag_word, parents_word}
use Rattle.sg_parse.specs.declared.tree.Param.{Param}
use Rattle.sg_parse.specs.declared.tree.Ret.{Ret}
use Rattle.sg_parse.specs.declared.tree.Ret.TheVariants.{Plain, Set, Add, Sub}
use Rattle.sg_parse.specs.declared.tree.Statement.{Statement}
use Rattle.sg_parse.specs.declared.tree.Statement.TheVariants.{One, Two, Proto}
use Rattle.sg_parse.specs.declared.tree.Tree.{Tree}
use Rattle.sg_parse.specs.sg_lex.Lexeme.{Spelling as Named}
use Rattle.sg_parse.specs.declared.tree.Facts.{Facts as Head}
use Rattle.sg_check_statements.specs.Effects.{arg_effects, declared_effects, same_effects}
use Rattle.sg_check_statements.specs.Flaws.{fun_of_name, is_declared}
use Rattle.sg_check_statements.specs.Params.{fit_params, has_word}
use Rattle.sg_check_statements.specs.Says.{agree, names_two, fun_number, has_proto, says, service_of}

-- ---- what statements say

-- whether a statement is a prototype of a function
abbrev pub is_proto : List ℕ → Statement → Bool
is_proto f s = elim s [ Proto ret name params ↦ bytes_eq name.bytes f | _ ↦ false ]

-- whether a statement says a word of a function
abbrev pub is_one : List ℕ → List ℕ → Statement → Bool
is_one w f s = elim s [ One word fun ↦ bytes_eq word.bytes w && bytes_eq fun.bytes f | _ ↦ false ]

-- whether a statement says a word of a function and another name
abbrev pub is_two : List ℕ → List ℕ → List ℕ → Statement → Bool
is_two w f g s = elim s [ Two word first second ↦ bytes_eq word.bytes w && bytes_eq first.bytes f && bytes_eq second.bytes g | _ ↦ false ]

-- the service of a text's name is one of these services
abbrev pub IsOf : List Facts → Tree → Facts → Type 0
IsOf services tree facts = service_of services tree.facts.service.bytes ≡ Some facts

-- no statement, judged with those before it, has a flaw
abbrev pub NoStatement : (List Statement → Statement → ℕ → Type 0) → List Statement → Type 0
NoStatement Flaw statements =
    (before : List Statement) (one : Statement) (after : List Statement) (place : ℕ) → statements ≡ before ++ one ∷ after → Flaw before one place → ⊥

-- ---- names

-- a name of a function that has no prototype, or a prototype of a function that the service hasn't
abbrev pub unknown : Facts → List Statement → Statement → Option ℕ
unknown facts statements (One word fun) = then_some (not (has_proto statements fun.bytes)) fun.at
unknown facts statements (Two word first second) =
    option_or (then_some (not (has_proto statements first.bytes)) first.at)
    (then_some (names_two word.bytes && not (has_proto statements second.bytes)) second.at)
unknown facts statements (Proto ret name params) = then_some (is_none (fun_number facts.funs name.bytes)) name.at
unknown facts statements _ = None

-- ---- parameters and facts

-- a prototype whose parameters aren't the function's
abbrev pub bad_params : Facts → Statement → Option ℕ
bad_params facts (Proto ret name params) = then_some (not (fit_params (fun_of_name facts name.bytes) params)) name.at
bad_params facts _ = None

-- a value that isn't this word
abbrev pub other_value : Named → List ℕ → Option ℕ
other_value value word = then_some (not (bytes_eq value.bytes word)) value.at

-- the place of the first fact that isn't the service's, one fact after the other
abbrev pub first_other : Facts → Head → Option ℕ
first_other facts head =
    option_or (other_value head.parent (parents_word facts.parents))
    (option_or (other_value head.close (close_word facts.subtree))
    (option_or (other_value head.global (flag_word facts.global))
    (option_or (other_value head.block (flag_word facts.block))
    (option_or (other_value head.has_data (flag_word facts.has_data))
    (other_value head.resc_data (flag_word facts.resc_data))))))

-- ---- flags and states

-- whether each flag of a function is declared exactly where the service has it
abbrev pub fit_flags : List Statement → List ℕ → Fun → Bool
fit_flags statements f fun =
    agree fun.creation (says statements (codes "sm_creation") f) && agree fun.terminal (says statements (codes "sm_terminal") f)
    && agree fun.block (says statements (codes "sm_block") f) && agree fun.wakeup (says statements (codes "sm_wakeup") f)
    && agree fun.query (says statements (codes "sm_query") f) && agree fun.all (says statements (codes "sm_needs_all") f)
    && agree fun.uses_file (says statements (codes "resc_data") f)

-- a prototype of a function whose flags, or whose state, are declared otherwise
abbrev pub wrong_flag : Facts → List Statement → Statement → Option ℕ
wrong_flag facts statements (Proto ret name params) = then_some (not (is_declared facts statements name.bytes)) name.at
wrong_flag facts statements _ = None

-- ---- effects

-- a field's name, and what is done to it
abbrev pub Named_effect : Type 0
Named_effect = List ℕ × Effect

-- the effects that a prototype's first parameter declares: its field is set to the caller
abbrev pub caller_effects : List Param → List Named_effect
caller_effects [] = []
caller_effects (p ∷ params) = if has_word p.form (codes "desc_data") then (p.name.bytes, SetCaller) ∷ [] else []

-- the effects that a prototype's parameters after the first declare
abbrev pub later_effects : List Param → List Named_effect
later_effects [] = []
later_effects (p ∷ params) = arg_effects 0 params

-- the effects that a prototype's return declares: the returned word is set in a field, added to one, or subtracted from one
abbrev pub ret_effects : Ret → List Named_effect
ret_effects (Plain ty) = []
ret_effects (Set ty field) = (field.bytes, SetRet) ∷ []
ret_effects (Add ty field) = (field.bytes, AddRet) ∷ []
ret_effects (Sub ty field) = (field.bytes, SubRet) ∷ []

-- the effects that one statement declares for a function: a field is cleared, or one is subtracted from it
abbrev pub statement_effects : List ℕ → Statement → List Named_effect
statement_effects f (Two word first second) =
    if bytes_eq first.bytes f && bytes_eq word.bytes (codes "desc_data_clear") then (second.bytes, Clear) ∷ []
    else (if bytes_eq first.bytes f && bytes_eq word.bytes (codes "desc_data_sub") then (second.bytes, SubOne) ∷ []
    else [])
statement_effects f _ = []

-- the effects of a function of the service
abbrev pub service_effects : Facts → Fun → List Named_effect
service_effects facts f = map (λ e. (field_name facts.fields e.0, e.1)) f.effects

-- a prototype of a function whose effects are declared otherwise than the service has them
abbrev pub wrong_effect : Facts → List Statement → Statement → Option ℕ
wrong_effect facts statements (Proto ret name params) =
    then_some (not (same_effects (declared_effects statements name.bytes ret params) (service_effects facts (fun_of_name facts name.bytes)))) name.at
wrong_effect facts statements _ = None

-- ---- transitions, recover steps, and what descriptors can come to

-- whether two functions, where both names are functions', are one of these pairs
abbrev pub has_pair_at : List (ℕ × ℕ) → Option ℕ → Option ℕ → Bool
has_pair_at pairs first second = option_map_or (λ f. option_map_or (λ g. has_pair pairs f g) second false) first false

-- no prototype is of a creation
abbrev pub no_creation : Facts → List Statement → Option ℕ
no_creation facts statements = then_some (not (list_any (λ f. f.creation && has_proto statements f.name) facts.funs)) 0

-- the function of this number is to be reached and isn't
abbrev pub IsUnreached : Declared → ℕ → Type 0
IsUnreached i fun = (needs_reach i fun ≡ true) × (IsReached i fun → ⊥)
