-- Tests over the effects that a text declares.
use Rattle.std.proofs.Common.{◌≡◌, ℕ, Bool, true, false, ◌&&◌, ◌||◌, not, List, [], ◌∷◌, ◌++◌, map, refl, sym, ◌∙◌, ap}
use Rattle.std.specs.List.{list_any, list_all, flat_map}
use Rattle.std.specs.Str.{bytes_eq}
use Rattle.std.proofs.lemmas.List.Folds.{list_any-append, list_all-map}
use Rattle.sg_facts.specs.declared.shape.Effect.{Effect}
use Rattle.sg_facts.specs.Facts.{Facts, Fun}
use Rattle.sg_parse.specs.declared.tree.Param.{Param}
use Rattle.sg_parse.specs.declared.tree.Ret.{Ret}
use Rattle.sg_parse.specs.declared.tree.Statement.{Statement}
use Rattle.sg_parse.specs.declared.tree.Statement.TheVariants.{Proto}
use Rattle.sg_parse.specs.sg_lex.Lexeme.{Spelling as Named}
use Rattle.sg_check_statements.specs.Flaws.{fun_of_name}
use Rattle.sg_check_statements.specs.Inside.Pieces.{wrong_effect, Named_effect, caller_effects, later_effects, ret_effects, service_effects, statement_effects}
use Rattle.std.specs.Bool.{then_some}
use Rattle.sg_facts.specs.Words.{field_name}
use Rattle.sg_check_statements.specs.Effects.{declared_effects, same_effect, same_effects, has_effect}

-- ---- lists

pub any_map : {X Y : Type 0} (p : X → Bool) (h : Y → X) (ys : List Y) → list_any p (map h ys) ≡ list_any (λ y. p (h y)) ys
any_map p h [] = refl
any_map p h (y ∷ ys) = ap (λ b. p (h y) || b) (any_map p h ys)

pub any_flat_map : {X Y : Type 0} (p : X → Bool) (h : Y → List X) (ys : List Y) → list_any p (flat_map h ys) ≡ list_any (λ y. list_any p (h y)) ys
any_flat_map p h [] = refl
any_flat_map p h (y ∷ ys) = list_any-append p (h y) (flat_map h ys) ∙ ap (λ b. list_any p (h y) || b) (any_flat_map p h ys)

not_both : (a b : Bool) → (a && not b) ≡ not (not a || b)
not_both true b = refl
not_both false b = refl

-- all pass where none fails
pub all_by_any : {X : Type 0} (p : X → Bool) (xs : List X) → list_all p xs ≡ not (list_any (λ x. not (p x)) xs)
all_by_any p [] = refl
all_by_any p (x ∷ xs) = ap (λ b. p x && b) (all_by_any p xs) ∙ not_both (p x) (list_any (λ y. not (p y)) xs)

-- ---- effects

last_two : (a b c : Bool) → ((a || b) || c) ≡ (a || (b || c))
last_two true b c = refl
last_two false b c = refl

pub any_of_declared : (p : Named_effect → Bool) (statements : List Statement) (f : List ℕ) (ret : Ret) (params : List Param)
    → list_any p (declared_effects statements f ret params)
    ≡ ((list_any p (caller_effects params) || list_any p (later_effects params)) || (list_any p (ret_effects ret) || list_any (λ s. list_any p (statement_effects f s)) statements))
any_of_declared p statements f ret params =
    let A : List Named_effect = caller_effects params in
    let B : List Named_effect = later_effects params in
    let C : List Named_effect = ret_effects ret in
    list_any-append p ((A ++ B) ++ C) (flat_map (statement_effects f) statements)
    ∙ ap (λ b. list_any p ((A ++ B) ++ C) || b) (any_flat_map p (statement_effects f) statements)
    ∙ ap (λ b. b || list_any (λ s. list_any p (statement_effects f s)) statements) (list_any-append p (A ++ B) C ∙ ap (λ b. b || list_any p C) (list_any-append p A B))
    ∙ last_two (list_any p A || list_any p B) (list_any p C) (list_any (λ s. list_any p (statement_effects f s)) statements)

-- whether a service has an effect, over the effects of its shape
pub service_has : (facts : Facts) (f : Fun) (effects : List (ℕ × Effect)) (e : Named_effect) → f.effects ≡ map (λ p. (p.0, p.1)) effects
    → has_effect (service_effects facts f) e ≡ list_any (λ other. bytes_eq (field_name facts.fields other.0) e.0 && same_effect other.1 e.1) effects
service_has facts f effects e is =
    any_map (λ other. bytes_eq other.0 e.0 && same_effect other.1 e.1) (λ other. (field_name facts.fields other.0, other.1)) f.effects
    ∙ ap (λ l. list_any (λ other. bytes_eq (field_name facts.fields other.0) e.0 && same_effect other.1 e.1) l) is
    ∙ any_map (λ other. bytes_eq (field_name facts.fields other.0) e.0 && same_effect other.1 e.1) (λ p. (p.0, p.1)) effects

-- all effects of a service pass
pub all_of_service : (p : Named_effect → Bool) (facts : Facts) (f : Fun) (effects : List (ℕ × Effect)) → f.effects ≡ map (λ q. (q.0, q.1)) effects
    → list_all p (service_effects facts f) ≡ list_all (λ other. p (field_name facts.fields other.0, other.1)) effects
all_of_service p facts f effects is =
    list_all-map p (λ other. (field_name facts.fields other.0, other.1)) f.effects
    ∙ ap (λ l. list_all (λ other. p (field_name facts.fields other.0, other.1)) l) is
    ∙ list_all-map (λ other. p (field_name facts.fields other.0, other.1)) (λ q. (q.0, q.1)) effects

-- ---- the judge

-- effects that aren't the function's are the flaw of its prototype
pub judged : (facts : Facts) (statements : List Statement) (ret : Ret) (name : Named) (params : List Param) (s : Statement) (f : Fun) (fit : Bool) (slice : List ℕ) (at : ℕ) (own : List Param)
    → s ≡ Proto ret name params → record { bytes = slice; at = at } ≡ name → own ≡ params → f ≡ fun_of_name facts slice
    → fit ≡ same_effects (declared_effects statements slice ret own) (service_effects facts f)
    → then_some (not fit) at ≡ wrong_effect facts statements s
judged facts statements ret name params s f fit slice at own is told lent found same =
    let named : s ≡ Proto ret (record { bytes = slice; at = at }) own =
    is ∙ ap (λ n. Proto ret n params) (sym told) ∙ ap (λ l. Proto ret (record { bytes = slice; at = at }) l) (sym lent) in
    ap (λ b. then_some (not b) at) (same ∙ ap (λ g. same_effects (declared_effects statements slice ret own) (service_effects facts g)) found)
    ∙ ap (wrong_effect facts statements) (sym named)

-- ---- pairs

-- pairs of a shape as plain data
pub same_pairs : (pairs : List (ℕ × ℕ)) → map (λ p. (p.0, p.1)) pairs ≡ pairs
same_pairs [] = refl
same_pairs (p ∷ pairs) = ap (λ l. p ∷ l) (same_pairs pairs)
