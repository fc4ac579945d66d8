-- What can be wrong with a statement, or with the facts, of a text, and at which place.
use Rattle.std.specs.Prelude.{ℕ, ◌≡◌, ◌≤◌, Bool, true, false, ◌&&◌, ◌||◌, not, if◌then◌else◌, List, None, codes, length, map, unwrap_or, [], ◌∷◌, find}
use Rattle.std.specs.declared.option.Option.{Option}
use Rattle.std.specs.Bool.{then_some}
use Rattle.std.specs.List.{list_any}
use Rattle.std.specs.Option.{is_none, option_map_or, option_or, option_map}
use Rattle.std.specs.Str.{bytes_eq}
use Rattle.sg_facts.specs.declared.shape.Effect.{Effect}
use Rattle.sg_facts.specs.declared.shape.Leaves.{Leaves}
use Rattle.sg_facts.specs.declared.shape.Leaves.TheVariants.{Own, Same, Of}
use Rattle.sg_facts.specs.Facts.{Facts, Fun, fun_at}
use Rattle.sg_facts.specs.Interface.{Declared, has_pair}
use Rattle.sg_facts.specs.Words.{close_word, field_name, flag_word, parents_word}
use Rattle.sg_facts.specs.Walks.{IsReachable, begin_of, most_calls, restores}
use Rattle.sg_parse.specs.declared.tree.Facts.{Facts as Head}
use Rattle.sg_parse.specs.declared.tree.Statement.{Statement}
use Rattle.sg_parse.specs.declared.tree.Statement.TheVariants.{One, Two, Proto}
use Rattle.sg_parse.specs.sg_lex.Lexeme.{Spelling as Named}
use Rattle.sg_check_statements.specs.declared.fault.CheckKind.{CheckKind}
use Rattle.sg_check_statements.specs.declared.fault.CheckKind.TheVariants.{UnknownFunction, BadParams, WrongFlag, WrongEffect, ForeignTransition, ForeignRecover}
use Rattle.sg_check_statements.specs.Says.{has_proto, fun_number, says, says_of}
use Rattle.sg_check_statements.specs.Params.{fit_params}
use Rattle.sg_check_statements.specs.Effects.{declared_effects, same_effects}

-- the service's function of a name
abbrev pub fun_of_name : Facts → List ℕ → Fun
fun_of_name facts name = fun_at facts.funs (unwrap_or (fun_number facts.funs name) 0)

-- the first fact that isn't the service's
abbrev pub wrong_fact : Facts → Head → Option ℕ
wrong_fact facts head =
    option_map (λ (p : Named × List ℕ). p.0.at) (find (λ (p : Named × List ℕ). not (bytes_eq p.0.bytes p.1)) (
    (head.parent, parents_word facts.parents) ∷ (head.close, close_word facts.subtree) ∷ (head.global, flag_word facts.global)
    ∷ (head.block, flag_word facts.block) ∷ (head.has_data, flag_word facts.has_data) ∷ (head.resc_data, flag_word facts.resc_data) ∷ []))

-- whether a statement names a state that a function leaves
abbrev pub leaves_some : List ℕ → Statement → Bool
leaves_some f s = elim s [ Two word first second ↦ bytes_eq word.bytes (codes "sm_state") && bytes_eq first.bytes f | _ ↦ false ]

-- whether a statement names a state, other than this function's, that a function leaves
abbrev pub leaves_another : List ℕ → List ℕ → Statement → Bool
leaves_another f g s =
    elim s [ Two word first second ↦ bytes_eq word.bytes (codes "sm_state") && bytes_eq first.bytes f && not (bytes_eq second.bytes g) | _ ↦ false ]

-- whether the state that a function leaves is declared as the service has it: its own where no statement says another,
-- the one before where a statement says that it keeps it, and else that of the one function that statements name
abbrev pub fit_leaves : Facts → List Statement → List ℕ → Leaves → Bool
fit_leaves facts statements f Own = not (says statements (codes "sm_keep") f) && not (list_any (leaves_some f) statements)
fit_leaves facts statements f Same = says statements (codes "sm_keep") f && not (list_any (leaves_some f) statements)
fit_leaves facts statements f (Of other) =
    not (says statements (codes "sm_keep") f) && says_of statements (codes "sm_state") f (fun_at facts.funs other).name
    && not (list_any (leaves_another f (fun_at facts.funs other).name) statements)

-- whether the function of a name is declared as the service has it: each flag exactly where it has it, and the state that it leaves
unfoldable pub is_declared : Facts → List Statement → List ℕ → Bool
is_declared facts statements f =
    let fun = fun_of_name facts f in
    let agrees : Bool → List ℕ → Bool = λ has word. if has then says statements word f else not (says statements word f) in
    (agrees fun.creation (codes "sm_creation") && agrees fun.terminal (codes "sm_terminal") && agrees fun.block (codes "sm_block")
    && agrees fun.wakeup (codes "sm_wakeup") && agrees fun.query (codes "sm_query") && agrees fun.all (codes "sm_needs_all")
    && agrees fun.uses_file (codes "resc_data"))
    && fit_leaves facts statements f fun.leaves

-- a prototype of a function that has one before
abbrev pub duplicate : List Statement → Statement → Option ℕ
duplicate before s = elim s [ Proto ret name params ↦ then_some (has_proto before name.bytes) name.at | _ ↦ None ]

-- a pair under a word, of functions that aren't one of these pairs
abbrev pub foreign : List ℕ → List (ℕ × ℕ) → Facts → Statement → Option ℕ
foreign w pairs facts s = elim s [
  | Two word first second ↦
      let listed = option_map_or (λ f. option_map_or (λ g. has_pair pairs f g) (fun_number facts.funs second.bytes) false) (fun_number facts.funs first.bytes) false in
      then_some (bytes_eq word.bytes w && not listed) first.at
  | _ ↦ None
]

-- the place of the flaw of a kind in one of these statements: a name of a function that has no prototype, or a prototype of a function that
-- the service hasn't, or whose parameters, flags, state or effects aren't the function's; a pair that isn't one of the service's
abbrev pub flaw_of : Facts → List Statement → CheckKind → Statement → Option ℕ
flaw_of facts statements UnknownFunction (One word fun) = then_some (not (has_proto statements fun.bytes)) fun.at
flaw_of facts statements UnknownFunction (Two word first second) =
    let two = bytes_eq word.bytes (codes "sm_state") || bytes_eq word.bytes (codes "sm_transition") || bytes_eq word.bytes (codes "sm_recover") in
    option_or (then_some (not (has_proto statements first.bytes)) first.at) (then_some (two && not (has_proto statements second.bytes)) second.at)
flaw_of facts statements UnknownFunction (Proto ret name params) = then_some (is_none (fun_number facts.funs name.bytes)) name.at
flaw_of facts statements BadParams (Proto ret name params) = then_some (not (fit_params (fun_of_name facts name.bytes) params)) name.at
flaw_of facts statements WrongFlag (Proto ret name params) = then_some (not (is_declared facts statements name.bytes)) name.at
flaw_of facts statements WrongEffect (Proto ret name params) =
    let own : List (List ℕ × Effect) = map (λ e. (field_name facts.fields e.0, e.1)) (fun_of_name facts name.bytes).effects in
    then_some (not (same_effects (declared_effects statements name.bytes ret params) own)) name.at
flaw_of facts statements ForeignTransition s = foreign (codes "sm_transition") facts.moves facts s
flaw_of facts statements ForeignRecover s = foreign (codes "sm_recover") facts.steps facts s
flaw_of facts statements _ _ = None

-- a descriptor can come to this state, with a set of fields, and no walk restores that
pub record HasNoWalk (i : Declared) (state : ℕ) : Type 0 where
  pub made : ℕ
  pub set : List Bool
  pub reached : IsReachable i made state set
  pub none : (walk : List ℕ) → begin_of walk ≡ made → length walk ≤ most_calls → restores i walk state set ≡ true → ⊥

-- a prototype of a function of which this holds, by its number
abbrev pub IsProtoWhere : Facts → (ℕ → Type 0) → Statement → ℕ → Type 0
IsProtoWhere facts P s at = elim s as (λ t. Type 0) [ Proto ret name params ↦ (name.at ≡ at) × P (unwrap_or (fun_number facts.funs name.bytes) 0) | _ ↦ ⊥ ]
