-- What holds of all effects that a text declares for a function.
use Rattle.std.proofs.Common.{◌≡◌, ℕ, suc, ◌+◌, ◌≤◌, ◌==◌, Bool, true, false, ◌&&◌, ◌||◌, not, List, [], ◌∷◌, ◌++◌, map, None, Some, codes, refl, sym, ◌∙◌, ap, arith}
use Rattle.std.specs.Prelude.{if◌then◌else◌, slice_get}
use Rattle.std.specs.List.{filter_map, flat_map, list_all}
use Rattle.std.specs.Str.{bytes_eq}
use Rattle.std.proofs.lemmas.Bool.{and_from, and_parts, lt-ltb}
use Rattle.std.proofs.lemmas.List.Folds.{list_all-append}
use Rattle.sg_check_statements.specs.sg_facts.declared.shape.Effect.TheVariants.{SetCaller, SetArg, AddArg, Clear, SubOne}
use Rattle.sg_check_statements.specs.sg_facts.declared.shape.Kind.TheVariants.{Desc, Parent, Word, Text}
use Rattle.sg_check_statements.specs.sg_facts.Allowed.{count_args, takes_among}
use Rattle.sg_check_statements.specs.Effects.{arg_effects, declared_effects}
use Rattle.sg_check_statements.specs.Inside.Pieces.{caller_effects, later_effects, ret_effects, statement_effects}
use Rattle.sg_check_statements.specs.NameSet.{has_name}
use Rattle.sg_check_statements.specs.Params.{has_word}
use Rattle.sg_check_statements.specs.sg_parse.declared.tree.Param.{Param}
use Rattle.sg_check_statements.specs.sg_parse.declared.tree.Ret.{Ret}
use Rattle.sg_check_statements.specs.sg_parse.declared.tree.Ret.TheVariants.{Plain, Set, Add, Sub}
use Rattle.sg_check_statements.specs.sg_parse.declared.tree.Statement.{Statement}
use Rattle.sg_check_statements.specs.sg_parse.declared.tree.Statement.TheVariants.{Two}
use Rattle.sg_shape.specs.Fields.{Use, param_use, ret_use, uses_of, word_use}
use Rattle.sg_shape.specs.Prototypes.{Prototype, protos_of}
use Rattle.sg_shape.specs.ShapeOfText.{kind_of}
use Rattle.sg_shape.proofs.OnFields.{On, into}
use Rattle.sg_shape.proofs.Names.{own_bytes}
use Rattle.sg_shape.proofs.Naming.{all_named, all_of_each, gathered_passes, one_gathered, use_names}

-- ---- part by part

all_flat : {X : Type 0} (test : On → Bool) (h : X → List On) (xs : List X) → ((k : ℕ) (x : X) → slice_get xs k ≡ Some x → list_all test (h x) ≡ true) → list_all test (flat_map h xs) ≡ true
all_flat test h [] each = refl
all_flat test h (x ∷ xs) each =
    list_all-append test (h x) (flat_map h xs)
    ∙ and_from (list_all test (h x)) (list_all test (flat_map h xs)) (each 0 x refl) (all_flat test h xs (λ k y at. each (suc k) y at))

by_parts : (test : On → Bool) (statements : List Statement) (f : List ℕ) (ret : Ret) (params : List Param)
    → list_all test (caller_effects params) ≡ true → list_all test (later_effects params) ≡ true → list_all test (ret_effects ret) ≡ true
    → ((k : ℕ) (s : Statement) → slice_get statements k ≡ Some s → list_all test (statement_effects f s) ≡ true)
    → list_all test (declared_effects statements f ret params) ≡ true
by_parts test statements f ret params first later returned said =
    let A : List On = caller_effects params in
    let B : List On = later_effects params in
    let C : List On = ret_effects ret in
    let D : List On = flat_map (statement_effects f) statements in
    list_all-append test ((A ++ B) ++ C) D
    ∙ and_from (list_all test ((A ++ B) ++ C)) (list_all test D)
    (list_all-append test (A ++ B) C
    ∙ and_from (list_all test (A ++ B)) (list_all test C) (list_all-append test A B ∙ and_from (list_all test A) (list_all test B) first later) returned)
    (all_flat test (statement_effects f) statements said)

one_else : (test : On → Bool) (b : Bool) (e : On) → test e ≡ true → list_all test (if b then e ∷ [] else []) ≡ true
one_else test true e passes = ap (λ c. c && true) passes
one_else test false e passes = refl

one_of_two : (test : On → Bool) (b c : Bool) (d e : On) → test d ≡ true → test e ≡ true → list_all test (if b then d ∷ [] else (if c then e ∷ [] else [])) ≡ true
one_of_two test true c d e first second = ap (λ a. a && true) first
one_of_two test false c d e first second = one_else test c e second

-- ---- arguments that there are

-- the effects of later parameters take arguments of theirs
args_among : (most k : ℕ) (params : List Param) → k + count_args (map kind_of params) ≤ most → list_all (λ e. takes_among most e.1) (arg_effects k params) ≡ true
args_among most k [] within = refl
args_among most k (p ∷ params) within =
    by (has_word p.form (codes "desc")) (has_word p.form (codes "parent_desc")) (p.ty.stars == 0) (has_word p.form (codes "desc_data")) (has_word p.form (codes "desc_data_add")) within
    (λ j fits. args_among most j params fits)
  where
    one : (e : On) (more : List On) → takes_among most e.1 ≡ true → list_all (λ d. takes_among most d.1) more ≡ true → list_all (λ d. takes_among most d.1) (e ∷ more) ≡ true
    one e more first rest = and_from (takes_among most e.1) (list_all (λ d. takes_among most d.1) more) first rest

    -- an argument, whether it is a number or a text
    by_effect : (t a : Bool) → k + 1 + count_args (map kind_of params) ≤ most → list_all (λ e. takes_among most e.1) (arg_effects (k + 1) params) ≡ true
        → list_all (λ e. takes_among most e.1) (if t then (p.name.bytes, SetArg k) ∷ arg_effects (k + 1) params
        else (if a then (p.name.bytes, AddArg k) ∷ arg_effects (k + 1) params else arg_effects (k + 1) params)) ≡ true
    by_effect true a fits rest = one (p.name.bytes, SetArg k) (arg_effects (k + 1) params) (lt-ltb k most (omega (arith, fits))) rest
    by_effect false true fits rest = one (p.name.bytes, AddArg k) (arg_effects (k + 1) params) (lt-ltb k most (omega (arith, fits))) rest
    by_effect false false fits rest = rest

    by : (d q s t a : Bool) → k + count_args ((if d then Desc else (if q then Parent else (if s then Word else Text))) ∷ map kind_of params) ≤ most
        → ((j : ℕ) → j + count_args (map kind_of params) ≤ most → list_all (λ e. takes_among most e.1) (arg_effects j params) ≡ true)
        → list_all (λ e. takes_among most e.1) (if d || q then arg_effects k params
        else (if t then (p.name.bytes, SetArg k) ∷ arg_effects (k + 1) params
        else (if a then (p.name.bytes, AddArg k) ∷ arg_effects (k + 1) params else arg_effects (k + 1) params))) ≡ true
    by true q s t a fits rest = rest k fits
    by false true s t a fits rest = rest k fits
    by false false true t a fits rest = let more : k + 1 + count_args (map kind_of params) ≤ most = omega (arith, fits) in by_effect t a more (rest (k + 1) more)
    by false false false t a fits rest = let more : k + 1 + count_args (map kind_of params) ≤ most = omega (arith, fits) in by_effect t a more (rest (k + 1) more)

said_among : (most : ℕ) (f : List ℕ) (s : Statement) → list_all (λ e. takes_among most e.1) (statement_effects f s) ≡ true
said_among most f (Two word first second) =
    one_of_two (λ e. takes_among most e.1) (bytes_eq first.bytes f && bytes_eq word.bytes (codes "desc_data_clear")) (bytes_eq first.bytes f && bytes_eq word.bytes (codes "desc_data_sub")) _ _ refl refl
said_among most f _ = refl

ret_among : (most : ℕ) (ret : Ret) → list_all (λ e. takes_among most e.1) (ret_effects ret) ≡ true
ret_among most (Plain ty) = refl
ret_among most (Set ty field) = refl
ret_among most (Add ty field) = refl
ret_among most (Sub ty field) = refl

-- a function's effects take arguments that it has
pub effects_among : (statements : List Statement) (f : List ℕ) (ret : Ret) (caller : Param) (later : List Param)
    → list_all (λ e. takes_among (count_args (map kind_of later)) e.1) (declared_effects statements f ret (caller ∷ later)) ≡ true
effects_among statements f ret caller later =
    let most = count_args (map kind_of later) in
    by_parts (λ e. takes_among most e.1) statements f ret (caller ∷ later)
    (one_else (λ e. takes_among most e.1) (has_word caller.form (codes "desc_data")) (caller.name.bytes, SetCaller) refl)
    (args_among most 0 later (omega arith)) (ret_among most ret) (λ k s at. said_among most f s)

-- ---- the caller's field

args_into : (name : List ℕ) (k : ℕ) (params : List Param) → list_all (into name) (arg_effects k params) ≡ true
args_into name k [] = refl
args_into name k (p ∷ params) =
    by (has_word p.form (codes "desc") || has_word p.form (codes "parent_desc")) (has_word p.form (codes "desc_data")) (has_word p.form (codes "desc_data_add"))
    (args_into name k params) (args_into name (k + 1) params)
  where
    by : (d t a : Bool) → list_all (into name) (arg_effects k params) ≡ true → list_all (into name) (arg_effects (k + 1) params) ≡ true
        → list_all (into name) (if d then arg_effects k params
        else (if t then (p.name.bytes, SetArg k) ∷ arg_effects (k + 1) params
        else (if a then (p.name.bytes, AddArg k) ∷ arg_effects (k + 1) params else arg_effects (k + 1) params))) ≡ true
    by true t a same next = same
    by false true a same next = next
    by false false true same next = next
    by false false false same next = next

said_into : (name f : List ℕ) (s : Statement) → list_all (into name) (statement_effects f s) ≡ true
said_into name f (Two word first second) =
    one_of_two (into name) (bytes_eq first.bytes f && bytes_eq word.bytes (codes "desc_data_clear")) (bytes_eq first.bytes f && bytes_eq word.bytes (codes "desc_data_sub")) _ _ refl refl
said_into name f _ = refl

ret_into : (name : List ℕ) (ret : Ret) → list_all (into name) (ret_effects ret) ≡ true
ret_into name (Plain ty) = refl
ret_into name (Set ty field) = refl
ret_into name (Add ty field) = refl
ret_into name (Sub ty field) = refl

-- the caller is set into the field of the first parameter's name alone
pub effects_into : (statements : List Statement) (f : List ℕ) (ret : Ret) (caller : Param) (later : List Param)
    → list_all (into caller.name.bytes) (declared_effects statements f ret (caller ∷ later)) ≡ true
effects_into statements f ret caller later =
    by_parts (into caller.name.bytes) statements f ret (caller ∷ later)
    (one_else (into caller.name.bytes) (has_word caller.form (codes "desc_data")) (caller.name.bytes, SetCaller) (own_bytes caller.name.bytes))
    (args_into caller.name.bytes 0 later) (ret_into caller.name.bytes ret) (λ k s at. said_into caller.name.bytes f s)

-- ---- fields that there are

-- an effect on a field whose name is among these
abbrev among : List (List ℕ) → On → Bool
among names e = has_name names e.0

abbrev named : List (List ℕ) → Use → Bool
named names u = has_name names u.name.bytes

args_named : (names : List (List ℕ)) (k : ℕ) (params : List Param) → list_all (named names) (filter_map param_use params) ≡ true → list_all (among names) (arg_effects k params) ≡ true
args_named names k [] all = refl
args_named names k (p ∷ params) all =
    by (has_word p.form (codes "desc") || has_word p.form (codes "parent_desc")) (has_word p.form (codes "desc_data")) (has_word p.form (codes "desc_data_add")) parts.0
    (args_named names k params parts.1) (args_named names (k + 1) params parts.1)
  where
    parts : ((u : Use) → param_use p ≡ Some u → named names u ≡ true) × (list_all (named names) (filter_map param_use params) ≡ true)
    parts = one_gathered (named names) (param_use p) (filter_map param_use params) all

    by : (d t a : Bool) → ((u : Use) → (if t || a then Some (record { name = p.name; text = Some (not (p.ty.stars == 0)) }) else None) ≡ Some u → named names u ≡ true)
        → list_all (among names) (arg_effects k params) ≡ true → list_all (among names) (arg_effects (k + 1) params) ≡ true
        → list_all (among names) (if d then arg_effects k params
        else (if t then (p.name.bytes, SetArg k) ∷ arg_effects (k + 1) params
        else (if a then (p.name.bytes, AddArg k) ∷ arg_effects (k + 1) params else arg_effects (k + 1) params))) ≡ true
    by true t a found same next = same
    by false true a found same next =
        and_from (has_name names p.name.bytes) (list_all (among names) (arg_effects (k + 1) params)) (found (record { name = p.name; text = Some (not (p.ty.stars == 0)) }) refl) next
    by false false true found same next =
        and_from (has_name names p.name.bytes) (list_all (among names) (arg_effects (k + 1) params)) (found (record { name = p.name; text = Some (not (p.ty.stars == 0)) }) refl) next
    by false false false found same next = next

caller_named : (names : List (List ℕ)) (caller : Param) → ((u : Use) → param_use caller ≡ Some u → named names u ≡ true) → list_all (among names) (caller_effects (caller ∷ [])) ≡ true
caller_named names caller found = by (has_word caller.form (codes "desc_data")) (has_word caller.form (codes "desc_data_add")) found
  where
    by : (t a : Bool) → ((u : Use) → (if t || a then Some (record { name = caller.name; text = Some (not (caller.ty.stars == 0)) }) else None) ≡ Some u → named names u ≡ true)
        → list_all (among names) (if t then (caller.name.bytes, SetCaller) ∷ [] else []) ≡ true
    by true a found = ap (λ b. b && true) (found (record { name = caller.name; text = Some (not (caller.ty.stars == 0)) }) refl)
    by false a found = refl

ret_named : (names : List (List ℕ)) (ret : Ret) → ((u : Use) → ret_use ret ≡ Some u → named names u ≡ true) → list_all (among names) (ret_effects ret) ≡ true
ret_named names (Plain ty) found = refl
ret_named names (Set ty field) found = ap (λ b. b && true) (found (record { name = field; text = Some false }) refl)
ret_named names (Add ty field) found = ap (λ b. b && true) (found (record { name = field; text = Some false }) refl)
ret_named names (Sub ty field) found = ap (λ b. b && true) (found (record { name = field; text = Some false }) refl)

said_named : (names : List (List ℕ)) (f : List ℕ) (s : Statement) → ((u : Use) → word_use s ≡ Some u → named names u ≡ true) → list_all (among names) (statement_effects f s) ≡ true
said_named names f (Two word first second) found = by (bytes_eq first.bytes f) (bytes_eq word.bytes (codes "desc_data_clear")) (bytes_eq word.bytes (codes "desc_data_sub")) found
  where
    by : (b c d : Bool) → ((u : Use) → (if c then Some (record { name = second; text = None }) else (if d then Some (record { name = second; text = Some false }) else None)) ≡ Some u → named names u ≡ true)
        → list_all (among names) (if b && c then (second.bytes, Clear) ∷ [] else (if b && d then (second.bytes, SubOne) ∷ [] else [])) ≡ true
    by false c d found = refl
    by true true d found = ap (λ a. a && true) (found (record { name = second; text = None }) refl)
    by true false true found = ap (λ a. a && true) (found (record { name = second; text = Some false }) refl)
    by true false false found = refl
said_named names f _ found = refl

-- each effect that a text declares for one of its functions is on a field that the text names
pub effects_named : (statements : List Statement) (k : ℕ) (p : Prototype) → slice_get (protos_of statements) k ≡ Some p
    → list_all (among (use_names (uses_of statements))) (declared_effects statements p.name.bytes p.ret p.params) ≡ true
effects_named statements k p at = let names = use_names (uses_of statements) in
    by_parts (among names) statements p.name.bytes p.ret p.params (firsts p.params in_params) (laters p.params in_params)
    (ret_named names p.ret (λ u is. gathered_passes (named names) (λ q. ret_use q.ret) (protos_of statements) k p u in_rets at is))
    (λ j s there. said_named names p.name.bytes s (λ u is. gathered_passes (named names) word_use statements j s u in_words there is))
  where
    whole : (list_all (named (use_names (uses_of statements))) (flat_map (λ q. filter_map param_use q.params) (protos_of statements) ++ filter_map (λ q. ret_use q.ret) (protos_of statements))
        && list_all (named (use_names (uses_of statements))) (filter_map word_use statements)) ≡ true
    whole = sym (list_all-append (named (use_names (uses_of statements))) (flat_map (λ q. filter_map param_use q.params) (protos_of statements) ++ filter_map (λ q. ret_use q.ret) (protos_of statements)) (filter_map word_use statements)) ∙ all_named (uses_of statements)

    in_words : list_all (named (use_names (uses_of statements))) (filter_map word_use statements) ≡ true
    in_words = (and_parts (list_all (named (use_names (uses_of statements))) (flat_map (λ q. filter_map param_use q.params) (protos_of statements) ++ filter_map (λ q. ret_use q.ret) (protos_of statements))) (list_all (named (use_names (uses_of statements))) (filter_map word_use statements)) whole).1

    two : (list_all (named (use_names (uses_of statements))) (flat_map (λ q. filter_map param_use q.params) (protos_of statements)) && list_all (named (use_names (uses_of statements))) (filter_map (λ q. ret_use q.ret) (protos_of statements))) ≡ true
    two = sym (list_all-append (named (use_names (uses_of statements))) (flat_map (λ q. filter_map param_use q.params) (protos_of statements)) (filter_map (λ q. ret_use q.ret) (protos_of statements))) ∙ (and_parts (list_all (named (use_names (uses_of statements))) (flat_map (λ q. filter_map param_use q.params) (protos_of statements) ++ filter_map (λ q. ret_use q.ret) (protos_of statements))) (list_all (named (use_names (uses_of statements))) (filter_map word_use statements)) whole).0

    in_rets : list_all (named (use_names (uses_of statements))) (filter_map (λ q. ret_use q.ret) (protos_of statements)) ≡ true
    in_rets = (and_parts (list_all (named (use_names (uses_of statements))) (flat_map (λ q. filter_map param_use q.params) (protos_of statements))) (list_all (named (use_names (uses_of statements))) (filter_map (λ q. ret_use q.ret) (protos_of statements))) two).1

    in_params : list_all (named (use_names (uses_of statements))) (filter_map param_use p.params) ≡ true
    in_params = all_of_each (named (use_names (uses_of statements))) (λ q. filter_map param_use q.params) (protos_of statements) k p (and_parts (list_all (named (use_names (uses_of statements))) (flat_map (λ q. filter_map param_use q.params) (protos_of statements))) (list_all (named (use_names (uses_of statements))) (filter_map (λ q. ret_use q.ret) (protos_of statements))) two).0 at

    firsts : (params : List Param) → list_all (named (use_names (uses_of statements))) (filter_map param_use params) ≡ true → list_all (among (use_names (uses_of statements))) (caller_effects params) ≡ true
    firsts [] all = refl
    firsts (caller ∷ later) all = caller_named (use_names (uses_of statements)) caller (one_gathered (named (use_names (uses_of statements))) (param_use caller) (filter_map param_use later) all).0

    laters : (params : List Param) → list_all (named (use_names (uses_of statements))) (filter_map param_use params) ≡ true → list_all (among (use_names (uses_of statements))) (later_effects params) ≡ true
    laters [] all = refl
    laters (caller ∷ later) all = args_named (use_names (uses_of statements)) 0 later (one_gathered (named (use_names (uses_of statements))) (param_use caller) (filter_map param_use later) all).1
