-- The fields of a text without texts are numbers, and its functions change fields that there are.
use Rattle.std.proofs.Common.{◌≡◌, ℕ, ◌+◌, ◌≤◌, ◌==◌, Bool, true, false, cond, ◌&&◌, ◌||◌, not, List, [], ◌∷◌, ◌++◌, length, None, Some, codes, refl, ◌∙◌, arith}
use Rattle.std.specs.Prelude.{filter, nat_lt, unwrap_or}
use Rattle.std.specs.declared.option.Option.{Option}
use Rattle.std.specs.List.{cons_option, filter_map, flat_map, list_all}
use Rattle.std.specs.Option.{option_map}
use Rattle.std.specs.Str.{bytes_eq}
use Rattle.std.proofs.lemmas.Bool.{and_from, and_parts, lt-ltb}
use Rattle.std.proofs.lemmas.List.Folds.{list_all-append, list_all-map}
use Rattle.sg_shape.specs.sg_facts.declared.shape.Effect.{Effect}
use Rattle.sg_shape.specs.sg_facts.Facts.{Field}
use Rattle.sg_shape.specs.sg_check_statements.Params.{has_word}
use Rattle.sg_shape.specs.sg_check_statements.sg_parse.declared.tree.Param.{Param}
use Rattle.sg_shape.specs.sg_check_statements.sg_parse.declared.tree.Ret.{Ret}
use Rattle.sg_shape.specs.sg_check_statements.sg_parse.declared.tree.Ret.TheVariants.{Plain, Set, Add, Sub}
use Rattle.sg_shape.specs.sg_check_statements.sg_parse.declared.tree.Statement.{Statement}
use Rattle.sg_shape.specs.sg_check_statements.sg_parse.declared.tree.Statement.TheVariants.{One, Two, Proto, External, Most, Unique, Answer}
use Rattle.sg_shape.specs.Fields.{Use, field_at, fields_of_text, first_uses, is_of_another, param_use, ret_use, uses_of, word_use}
use Rattle.sg_shape.specs.Prototypes.{Prototype, protos_of}
use Rattle.sg_shape.specs.ShapeOfText.{effect_on_name, numbered}
use Rattle.sg_shape.proofs.Places.{all_kept}
use Rattle.sg_describe.specs.AnswerFlaws.{not_yet_in, text_param}
use Rattle.sg_describe.specs.Said.{first_in}
use Rattle.sg_describe.proofs.Finding.{none_in, not_told}

-- ---- no use of a field has it as a text

-- a use has its field as a number
abbrev is_number : Use → Bool
is_number u = not (unwrap_or u.text false)

param_plain : (p : Param) → text_param p ≡ None → list_all is_number (cons_option (param_use p) []) ≡ true
param_plain p none = by (has_word p.form (codes "desc_data")) (has_word p.form (codes "desc_data_add")) (p.ty.stars == 0) (not_told ((has_word p.form (codes "desc_data") || has_word p.form (codes "desc_data_add")) && not (p.ty.stars == 0)) p.name.at none)
  where
    by : (a b zero_stars : Bool) → ((a || b) && not zero_stars) ≡ false
        → list_all is_number (cons_option (cond (a || b) (Some (record { name = p.name; text = Some (not zero_stars) })) None) []) ≡ true
    by true b true is = refl
    by true b false is = absurd (cc is)
    by false true true is = refl
    by false true false is = absurd (cc is)
    by false false s is = refl

params_plain : (params : List Param) → first_in text_param params ≡ None → list_all is_number (filter_map param_use params) ≡ true
params_plain [] none = refl
params_plain (p ∷ params) none = by (param_use p) (param_plain p (none_in text_param p params none).0) (params_plain params (none_in text_param p params none).1)
  where
    by : (o : Option Use) → list_all is_number (cons_option o []) ≡ true → list_all is_number (filter_map param_use params) ≡ true
        → list_all is_number (cons_option o (filter_map param_use params)) ≡ true
    by None first rest = rest
    by (Some u) first rest = and_from (is_number u) (list_all is_number (filter_map param_use params)) (and_parts (is_number u) true first).0 rest

rets_plain : (protos : List Prototype) → list_all is_number (filter_map (λ p. ret_use p.ret) protos) ≡ true
rets_plain [] = refl
rets_plain (p ∷ protos) = by p.ret (rets_plain protos)
  where
    by : (r : Ret) → list_all is_number (filter_map (λ p. ret_use p.ret) protos) ≡ true → list_all is_number (cons_option (ret_use r) (filter_map (λ p. ret_use p.ret) protos)) ≡ true
    by (Plain ty) rest = rest
    by (Set ty field) rest = rest
    by (Add ty field) rest = rest
    by (Sub ty field) rest = rest

words_plain : (statements : List Statement) → list_all is_number (filter_map word_use statements) ≡ true
words_plain [] = refl
words_plain (One word fun ∷ statements) = words_plain statements
words_plain (Proto ret name params ∷ statements) = words_plain statements
words_plain (External fun ∷ statements) = words_plain statements
words_plain (Most field most ∷ statements) = words_plain statements
words_plain (Unique fields ∷ statements) = words_plain statements
words_plain (Answer fun rules ∷ statements) = words_plain statements
words_plain (Two word first second ∷ statements) =
    by (bytes_eq word.bytes (codes "desc_data_clear")) (bytes_eq word.bytes (codes "desc_data_sub")) (words_plain statements)
  where
    by : (a b : Bool) → list_all is_number (filter_map word_use statements) ≡ true
        → list_all is_number (cons_option (cond a (Some (record { name = second; text = None })) (cond b (Some (record { name = second; text = Some false })) None)) (filter_map word_use statements)) ≡ true
    by true b rest = rest
    by false true rest = rest
    by false false rest = rest

abbrev uses_in_params : List Statement → List Use
uses_in_params statements = flat_map (λ p. filter_map param_use p.params) (protos_of statements)

protos_plain : (statements : List Statement) → first_in not_yet_in statements ≡ None → list_all is_number (uses_in_params statements) ≡ true
protos_plain [] none = refl
protos_plain (One word fun ∷ statements) none = protos_plain statements (none_in not_yet_in (One word fun) statements none).1
protos_plain (Two word first second ∷ statements) none = protos_plain statements (none_in not_yet_in (Two word first second) statements none).1
protos_plain (External fun ∷ statements) none = protos_plain statements (none_in not_yet_in (External fun) statements none).1
protos_plain (Most field most ∷ statements) none = protos_plain statements (none_in not_yet_in (Most field most) statements none).1
protos_plain (Unique fields ∷ statements) none = protos_plain statements (none_in not_yet_in (Unique fields) statements none).1
protos_plain (Answer fun rules ∷ statements) none = protos_plain statements (none_in not_yet_in (Answer fun rules) statements none).1
protos_plain (Proto ret name params ∷ statements) none =
    let parts = none_in not_yet_in (Proto ret name params) statements none in
    list_all-append is_number (filter_map param_use params) (uses_in_params statements)
    ∙ and_from (list_all is_number (filter_map param_use params)) (list_all is_number (uses_in_params statements)) (params_plain params parts.0) (protos_plain statements parts.1)

uses_plain : (statements : List Statement) → first_in not_yet_in statements ≡ None → list_all is_number (uses_of statements) ≡ true
uses_plain statements none =
    let params = uses_in_params statements in
    let rets = filter_map (λ p. ret_use p.ret) (protos_of statements) in
    let words = filter_map word_use statements in
    list_all-append is_number (params ++ rets) words
    ∙ and_from (list_all is_number (params ++ rets)) (list_all is_number words)
    (list_all-append is_number params rets ∙ and_from (list_all is_number params) (list_all is_number rets) (protos_plain statements none) (rets_plain (protos_of statements)))
    (words_plain statements)

-- ---- so no field is a text

first_plain : (uses : List Use) → list_all is_number uses ≡ true → list_all is_number (first_uses uses) ≡ true
first_plain [] all = refl
first_plain (u ∷ uses) all =
    let parts = and_parts (is_number u) (list_all is_number uses) all in
    and_from (is_number u) (list_all is_number (filter (is_of_another u) (first_uses uses))) parts.0
    (all_kept is_number (is_of_another u) (first_uses uses) (first_plain uses parts.1))

pub fields_plain : (statements : List Statement) → first_in not_yet_in statements ≡ None → list_all (λ (f : Field). not f.text) (fields_of_text statements) ≡ true
fields_plain statements none =
    list_all-map (λ (f : Field). not f.text) field_at (first_uses (uses_of statements)) ∙ first_plain (uses_of statements) (uses_plain statements none)

-- ---- effects

-- effects with the numbers of their fields are on fields that there are
pub numbered_within : (x count : ℕ) (fields : List Field) (effects : List (List ℕ × Effect)) → x + length fields ≤ count → list_all (λ (e : ℕ × Effect). nat_lt e.0 count) (numbered x fields effects) ≡ true
numbered_within x count [] effects within = refl
numbered_within x count (f ∷ fields) effects within = by (effect_on_name effects f.name) (numbered_within (x + 1) count fields effects (omega (arith, within)))
  where
    by : (o : Option Effect) → list_all (λ (e : ℕ × Effect). nat_lt e.0 count) (numbered (x + 1) fields effects) ≡ true
        → list_all (λ (e : ℕ × Effect). nat_lt e.0 count) (cons_option (option_map (λ e. (x, e)) o) (numbered (x + 1) fields effects)) ≡ true
    by None rest = rest
    by (Some e) rest = and_from (nat_lt x count) (list_all (λ (e : ℕ × Effect). nat_lt e.0 count) (numbered (x + 1) fields effects)) (lt-ltb x count (omega (arith, within))) rest
