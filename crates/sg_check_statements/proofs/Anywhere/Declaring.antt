-- Parameters, and the effects that a text declares, with each name at place 0.
use Rattle.std.proofs.Common.{◌≡◌, ℕ, ◌+◌, ◌-◌, Bool, ◌&&◌, ◌||◌, not, List, [], ◌∷◌, ◌++◌, None, Some, length, map, refl, ◌∙◌, ap}
use Rattle.std.specs.Prelude.{◌==◌, if◌then◌else◌, codes, slice_get}
use Rattle.std.specs.declared.option.Option.{Option}
use Rattle.std.specs.List.{flat_map}
use Rattle.std.specs.Option.{option_map}
use Rattle.std.proofs.lemmas.List.{length-map}
use Rattle.std.proofs.lemmas.Option.{slice_get-map}
use Rattle.std.specs.Cmp.Lexicographic.{pointwise}
use Rattle.sg_facts.specs.declared.shape.Effect.TheVariants.{SetCaller, SetArg, AddArg}
use Rattle.sg_facts.specs.declared.shape.Kind.{Kind}
use Rattle.sg_facts.specs.declared.shape.Kind.TheVariants.{Desc, Parent, Word, Text}
use Rattle.sg_facts.specs.Facts.{Fun}
use Rattle.sg_parse.specs.declared.tree.Param.{Param}
use Rattle.sg_parse.specs.declared.tree.Ret.{Ret}
use Rattle.sg_parse.specs.declared.tree.Ret.TheVariants.{Plain, Set, Add, Sub}
use Rattle.sg_parse.specs.declared.tree.Statement.{Statement}
use Rattle.sg_parse.specs.declared.tree.Statement.TheVariants.{Two}
use Rattle.sg_parse.specs.declared.tree.TypeName.{TypeName}
use Rattle.sg_parse.specs.sg_lex.Lexeme.{Spelling as Named}
use Rattle.sg_parse.specs.sg_rules.Grammar.Plain.{plain_name}
use Rattle.sg_parse.specs.Grammar.Plain.{plain_param, plain_ret, plain_statement, plain_type}
use Rattle.sg_check_statements.specs.Effects.{arg_effects, declared_effects}
use Rattle.sg_check_statements.specs.Inside.Pieces.{Named_effect, caller_effects, later_effects, ret_effects, statement_effects}
use Rattle.sg_check_statements.specs.Params.{fit_params, has_word, is_caller, is_client_type, is_of_kind}

-- ---- parameters

word_same : (form : Option Named) → has_word (option_map plain_name form) ≡ has_word form
word_same None = refl
word_same (Some n) = refl

last_same : (ns : List Named) → slice_get (map plain_name ns) (length (map plain_name ns) - 1) ≡ option_map plain_name (slice_get ns (length ns - 1))
last_same ns = ap (λ n. slice_get (map plain_name ns) (n - 1)) (length-map ns plain_name) ∙ slice_get-map plain_name ns (length ns - 1)

client_same : (ty : TypeName) → is_client_type (plain_type ty) ≡ is_client_type ty
client_same ty =
    ap (λ o. (ty.stars == 0) && (has_word o (codes "spdid_t") || has_word o (codes "componentid_t"))) (last_same ty.names)
    ∙ ap (λ (has : List ℕ → Bool). (ty.stars == 0) && (has (codes "spdid_t") || has (codes "componentid_t"))) (word_same (slice_get ty.names (length ty.names - 1)))

caller_same : (p : Param) → is_caller (plain_param p) ≡ is_caller p
caller_same p =
    ap (λ (has : List ℕ → Bool). is_client_type (plain_type p.ty) && not (has (codes "desc") || has (codes "parent_desc") || has (codes "desc_data_add"))) (word_same p.form)
    ∙ ap (λ b. b && not (has_word p.form (codes "desc") || has_word p.form (codes "parent_desc") || has_word p.form (codes "desc_data_add"))) (client_same p.ty)

kind_same : (p : Param) (k : Kind) → is_of_kind (plain_param p) k ≡ is_of_kind p k
kind_same p Desc = ap (λ (has : List ℕ → Bool). has (codes "desc") && (p.ty.stars == 0)) (word_same p.form)
kind_same p Parent = ap (λ (has : List ℕ → Bool). has (codes "parent_desc") && (p.ty.stars == 0)) (word_same p.form)
kind_same p Word = ap (λ (has : List ℕ → Bool). not (has (codes "desc")) && not (has (codes "parent_desc")) && (p.ty.stars == 0)) (word_same p.form)
kind_same p Text = ap (λ (has : List ℕ → Bool). not (has (codes "desc")) && not (has (codes "parent_desc")) && not (p.ty.stars == 0)) (word_same p.form)

kinds_same : (ps : List Param) (ks : List Kind) → pointwise is_of_kind (map plain_param ps) ks ≡ pointwise is_of_kind ps ks
kinds_same [] [] = refl
kinds_same [] (k ∷ ks) = refl
kinds_same (p ∷ ps) [] = refl
kinds_same (p ∷ ps) (k ∷ ks) = ap (λ b. b && pointwise is_of_kind (map plain_param ps) ks) (kind_same p k) ∙ ap (λ b. is_of_kind p k && b) (kinds_same ps ks)

pub fit_same : (f : Fun) (ps : List Param) → fit_params f (map plain_param ps) ≡ fit_params f ps
fit_same f [] = refl
fit_same f (p ∷ ps) = ap (λ b. b && pointwise is_of_kind (map plain_param ps) f.kinds) (caller_same p) ∙ ap (λ b. is_caller p && b) (kinds_same ps f.kinds)

-- ---- effects

caller_effects_same : (ps : List Param) → caller_effects (map plain_param ps) ≡ caller_effects ps
caller_effects_same [] = refl
caller_effects_same (p ∷ ps) = ap (λ (has : List ℕ → Bool). if has (codes "desc_data") then (p.name.bytes, SetCaller) ∷ [] else []) (word_same p.form)

args_same : (k : ℕ) (ps : List Param) → arg_effects k (map plain_param ps) ≡ arg_effects k ps
args_same k [] = refl
args_same k (p ∷ ps) =
    let of : (List ℕ → Bool) → List Named_effect → List Named_effect → List Named_effect =
    λ has again next. if has (codes "desc") || has (codes "parent_desc") then again
    else (if has (codes "desc_data") then (p.name.bytes, SetArg k) ∷ next
    else (if has (codes "desc_data_add") then (p.name.bytes, AddArg k) ∷ next
    else next)) in
    ap (λ has. of has (arg_effects k (map plain_param ps)) (arg_effects (k + 1) (map plain_param ps))) (word_same p.form)
    ∙ ap (λ again. of (has_word p.form) again (arg_effects (k + 1) (map plain_param ps))) (args_same k ps)
    ∙ ap (λ next. of (has_word p.form) (arg_effects k ps) next) (args_same (k + 1) ps)

later_same : (ps : List Param) → later_effects (map plain_param ps) ≡ later_effects ps
later_same [] = refl
later_same (p ∷ ps) = args_same 0 ps

ret_same : (ret : Ret) → ret_effects (plain_ret ret) ≡ ret_effects ret
ret_same (Plain ty) = refl
ret_same (Set ty field) = refl
ret_same (Add ty field) = refl
ret_same (Sub ty field) = refl

one_same : (f : List ℕ) (s : Statement) → statement_effects f (plain_statement s) ≡ statement_effects f s
one_same f (Two word first second) = refl
one_same f _ = refl

all_same : (f : List ℕ) (ss : List Statement) → flat_map (statement_effects f) (map plain_statement ss) ≡ flat_map (statement_effects f) ss
all_same f [] = refl
all_same f (s ∷ ss) = ap (λ l. l ++ flat_map (statement_effects f) (map plain_statement ss)) (one_same f s) ∙ ap (λ l. statement_effects f s ++ l) (all_same f ss)

pub declared_same : (ss : List Statement) (f : List ℕ) (ret : Ret) (ps : List Param)
    → declared_effects (map plain_statement ss) f (plain_ret ret) (map plain_param ps) ≡ declared_effects ss f ret ps
declared_same ss f ret ps =
    let of : List Named_effect → List Named_effect → List Named_effect → List Named_effect → List Named_effect = λ a b c d. a ++ b ++ c ++ d in
    ap (λ a. of a (later_effects (map plain_param ps)) (ret_effects (plain_ret ret)) (flat_map (statement_effects f) (map plain_statement ss))) (caller_effects_same ps)
    ∙ ap (λ b. of (caller_effects ps) b (ret_effects (plain_ret ret)) (flat_map (statement_effects f) (map plain_statement ss))) (later_same ps)
    ∙ ap (λ c. of (caller_effects ps) (later_effects ps) c (flat_map (statement_effects f) (map plain_statement ss))) (ret_same ret)
    ∙ ap (λ d. of (caller_effects ps) (later_effects ps) (ret_effects ret) d) (all_same f ss)
