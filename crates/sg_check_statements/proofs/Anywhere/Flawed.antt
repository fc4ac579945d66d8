-- Whether a statement has a flaw, with each name at place 0.
use Rattle.std.proofs.Common.{◌≡◌, ℕ, Bool, true, false, ◌&&◌, ◌||◌, not, List, None, Some, map, refl, sym, ◌∙◌, ap}
use Rattle.std.specs.Prelude.{codes}
use Rattle.std.specs.declared.option.Option.{Option}
use Rattle.std.specs.List.{list_any}
use Rattle.std.specs.Option.{is_some, option_or}
use Rattle.sg_facts.specs.declared.shape.Leaves.{Leaves}
use Rattle.sg_facts.specs.declared.shape.Leaves.TheVariants.{Own, Same, Of}
use Rattle.sg_facts.specs.Facts.{Facts, Fun, fun_at}
use Rattle.sg_facts.specs.Words.{close_word, flag_word, parents_word}
use Rattle.sg_parse.specs.declared.tree.Facts.{Facts as Head}
use Rattle.sg_parse.specs.declared.tree.Statement.{Statement}
use Rattle.sg_parse.specs.declared.tree.Statement.TheVariants.{One, Two, Proto}
use Rattle.sg_parse.specs.sg_lex.Lexeme.{Spelling as Named}
use Rattle.sg_parse.specs.sg_rules.Grammar.Plain.{plain_name}
use Rattle.sg_parse.specs.Grammar.Plain.{plain_facts, plain_param, plain_ret, plain_statement}
use Rattle.sg_check_statements.specs.Effects.{declared_effects, same_effects}
use Rattle.sg_check_statements.specs.Inside.Pieces.{Named_effect, service_effects, bad_params, fit_flags, no_creation, other_value, unknown, wrong_effect, wrong_flag}
use Rattle.sg_check_statements.specs.Flaws.{fit_leaves, leaves_another, leaves_some, duplicate, foreign, fun_of_name, is_declared, wrong_fact}
use Rattle.std.specs.Bool.{then_some}
use Rattle.sg_check_statements.specs.Params.{fit_params}
use Rattle.sg_check_statements.specs.Says.{agree, has_proto, names_two, says, says_of}
use Rattle.sg_check_statements.proofs.Anywhere.Declaring.{declared_same, fit_same}
use Rattle.sg_check_statements.proofs.Anywhere.Said.{any_same, proto_same, says_of_same, says_same}
use Rattle.sg_check_statements.proofs.FirstFact.{by_turns}

-- ---- places

told : (b : Bool) (at : ℕ) → is_some (then_some b at) ≡ b
told true at = refl
told false at = refl

-- of two tests that agree, both have a place or none
placed : (a b : Bool) (here there : ℕ) → a ≡ b → is_some (then_some a here) ≡ is_some (then_some b there)
placed a b here there same = told a here ∙ same ∙ sym (told b there)

some_first : (a b : Option ℕ) → is_some (option_or a b) ≡ (is_some a || is_some b)
some_first None b = refl
some_first (Some at) b = refl

both : (a b c d : Option ℕ) → is_some a ≡ is_some c → is_some b ≡ is_some d → is_some (option_or a b) ≡ is_some (option_or c d)
both a b c d one other = some_first a b ∙ ap (λ x. x || is_some b) one ∙ ap (λ x. is_some c || x) other ∙ sym (some_first c d)

-- ---- names

pub duplicate_same : (before : List Statement) (s : Statement) → is_some (duplicate (map plain_statement before) (plain_statement s)) ≡ is_some (duplicate before s)
duplicate_same before (Proto ret name params) =
    placed (has_proto (map plain_statement before) name.bytes) (has_proto before name.bytes) 0 name.at (ap (λ (has : List ℕ → Bool). has name.bytes) (proto_same before))
duplicate_same before _ = refl

pub unknown_same : (facts : Facts) (ss : List Statement) (s : Statement) → is_some (unknown facts (map plain_statement ss) (plain_statement s)) ≡ is_some (unknown facts ss s)
unknown_same facts ss (One word fun) =
    placed (not (has_proto (map plain_statement ss) fun.bytes)) (not (has_proto ss fun.bytes)) 0 fun.at (ap (λ (has : List ℕ → Bool). not (has fun.bytes)) (proto_same ss))
unknown_same facts ss (Two word first second) =
    both (then_some (not (has_proto (map plain_statement ss) first.bytes)) 0) (then_some (names_two word.bytes && not (has_proto (map plain_statement ss) second.bytes)) 0)
    (then_some (not (has_proto ss first.bytes)) first.at) (then_some (names_two word.bytes && not (has_proto ss second.bytes)) second.at)
    (placed (not (has_proto (map plain_statement ss) first.bytes)) (not (has_proto ss first.bytes)) 0 first.at (ap (λ (has : List ℕ → Bool). not (has first.bytes)) (proto_same ss)))
    (placed (names_two word.bytes && not (has_proto (map plain_statement ss) second.bytes)) (names_two word.bytes && not (has_proto ss second.bytes)) 0 second.at
    (ap (λ (has : List ℕ → Bool). names_two word.bytes && not (has second.bytes)) (proto_same ss)))
unknown_same facts ss (Proto ret name params) = placed _ _ 0 name.at refl
unknown_same facts ss _ = refl

-- ---- parameters and facts

pub bad_params_same : (facts : Facts) (s : Statement) → is_some (bad_params facts (plain_statement s)) ≡ is_some (bad_params facts s)
bad_params_same facts (Proto ret name params) =
    placed (not (fit_params (fun_of_name facts name.bytes) (map plain_param params))) (not (fit_params (fun_of_name facts name.bytes) params)) 0 name.at
    (ap not (fit_same (fun_of_name facts name.bytes) params))
bad_params_same facts _ = refl

value_same : (value : Named) (word : List ℕ) → is_some (other_value (plain_name value) word) ≡ is_some (other_value value word)
value_same value word = placed _ _ 0 value.at refl

-- the first of two values that isn't its word
more_same : (value : Named) (word : List ℕ) (rest others : Option ℕ) → is_some rest ≡ is_some others
    → is_some (option_or (other_value (plain_name value) word) rest) ≡ is_some (option_or (other_value value word) others)
more_same value word rest others same = both (other_value (plain_name value) word) rest (other_value value word) others (value_same value word) same

pub wrong_fact_same : (facts : Facts) (head : Head) → is_some (wrong_fact facts (plain_facts head)) ≡ is_some (wrong_fact facts head)
wrong_fact_same facts head =
    ap is_some (by_turns facts (plain_facts head))
    ∙ more_same head.parent (parents_word facts.parents) _ _
    (more_same head.close (close_word facts.subtree) _ _
    (more_same head.global (flag_word facts.global) _ _
    (more_same head.block (flag_word facts.block) _ _
    (more_same head.has_data (flag_word facts.has_data) _ _
    (value_same head.resc_data (flag_word facts.resc_data))))))
    ∙ sym (ap is_some (by_turns facts head))

-- ---- flags, states and effects

another_same : (f g : List ℕ) (s : Statement) → leaves_another f g (plain_statement s) ≡ leaves_another f g s
another_same f g (Two word first second) = refl
another_same f g _ = refl

some_same : (f : List ℕ) (s : Statement) → leaves_some f (plain_statement s) ≡ leaves_some f s
some_same f (Two word first second) = refl
some_same f _ = refl

leaves_same : (facts : Facts) (ss : List Statement) (f : List ℕ) (l : Leaves) → fit_leaves facts (map plain_statement ss) f l ≡ fit_leaves facts ss f l
leaves_same facts ss f Own =
    ap (λ (say : List ℕ → List ℕ → Bool). not (say (codes "sm_keep") f) && not (list_any (leaves_some f) (map plain_statement ss))) (says_same ss)
    ∙ ap (λ b. not (says ss (codes "sm_keep") f) && not b) (any_same (leaves_some f) plain_statement (some_same f) ss)
leaves_same facts ss f Same =
    ap (λ (say : List ℕ → List ℕ → Bool). say (codes "sm_keep") f && not (list_any (leaves_some f) (map plain_statement ss))) (says_same ss)
    ∙ ap (λ b. says ss (codes "sm_keep") f && not b) (any_same (leaves_some f) plain_statement (some_same f) ss)
leaves_same facts ss f (Of other) =
    let g : List ℕ = (fun_at facts.funs other).name in
    ap (λ (say : List ℕ → List ℕ → Bool). not (say (codes "sm_keep") f) && says_of (map plain_statement ss) (codes "sm_state") f g && not (list_any (leaves_another f g) (map plain_statement ss))) (says_same ss)
    ∙ ap (λ (say : List ℕ → List ℕ → List ℕ → Bool). not (says ss (codes "sm_keep") f) && say (codes "sm_state") f g && not (list_any (leaves_another f g) (map plain_statement ss))) (says_of_same ss)
    ∙ ap (λ b. not (says ss (codes "sm_keep") f) && says_of ss (codes "sm_state") f g && not b) (any_same (leaves_another f g) plain_statement (another_same f g) ss)

flags_same : (ss : List Statement) (f : List ℕ) (fun : Fun) → fit_flags (map plain_statement ss) f fun ≡ fit_flags ss f fun
flags_same ss f fun =
    ap (λ (say : List ℕ → List ℕ → Bool). agree fun.creation (say (codes "sm_creation") f) && agree fun.terminal (say (codes "sm_terminal") f)
    && agree fun.block (say (codes "sm_block") f) && agree fun.wakeup (say (codes "sm_wakeup") f)
    && agree fun.query (say (codes "sm_query") f) && agree fun.all (say (codes "sm_needs_all") f)
    && agree fun.uses_file (say (codes "resc_data") f)) (says_same ss)

declared_flags_same : (facts : Facts) (ss : List Statement) (f : List ℕ) → is_declared facts (map plain_statement ss) f ≡ is_declared facts ss f
unfolding is_declared
declared_flags_same facts ss f =
    ap (λ b. b && fit_leaves facts (map plain_statement ss) f (fun_of_name facts f).leaves) (flags_same ss f (fun_of_name facts f))
    ∙ ap (λ b. fit_flags ss f (fun_of_name facts f) && b) (leaves_same facts ss f (fun_of_name facts f).leaves)

pub wrong_flag_same : (facts : Facts) (ss : List Statement) (s : Statement) → is_some (wrong_flag facts (map plain_statement ss) (plain_statement s)) ≡ is_some (wrong_flag facts ss s)
wrong_flag_same facts ss (Proto ret name params) =
    placed (not (is_declared facts (map plain_statement ss) name.bytes)) (not (is_declared facts ss name.bytes)) 0 name.at (ap not (declared_flags_same facts ss name.bytes))
wrong_flag_same facts ss _ = refl

pub wrong_effect_same : (facts : Facts) (ss : List Statement) (s : Statement) → is_some (wrong_effect facts (map plain_statement ss) (plain_statement s)) ≡ is_some (wrong_effect facts ss s)
wrong_effect_same facts ss (Proto ret name params) =
    let own : List Named_effect = service_effects facts (fun_of_name facts name.bytes) in
    placed (not (same_effects (declared_effects (map plain_statement ss) name.bytes (plain_ret ret) (map plain_param params)) own)) (not (same_effects (declared_effects ss name.bytes ret params) own)) 0 name.at
    (ap (λ l. not (same_effects l own)) (declared_same ss name.bytes ret params))
wrong_effect_same facts ss _ = refl

-- ---- transitions, recover steps and creations

pub foreign_same : (w : List ℕ) (pairs : List (ℕ × ℕ)) (facts : Facts) (s : Statement) → is_some (foreign w pairs facts (plain_statement s)) ≡ is_some (foreign w pairs facts s)
foreign_same w pairs facts (Two word first second) = placed _ _ 0 first.at refl
foreign_same w pairs facts _ = refl

pub no_creation_same : (facts : Facts) (ss : List Statement) → no_creation facts (map plain_statement ss) ≡ no_creation facts ss
no_creation_same facts ss = ap (λ (has : List ℕ → Bool). then_some (not (list_any (λ f. f.creation && has f.name) facts.funs)) 0) (proto_same ss)
