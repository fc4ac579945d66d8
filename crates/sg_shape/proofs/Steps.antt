-- What is left of prototypes, statements, arguments, fields and pairs, after one more.
use Rattle.std.proofs.Common.{◌≡◌, ℕ, zero, suc, ◌+◌, ◌<◌, Bool, true, false, cond, List, [], ◌∷◌, ◌++◌, map, take, drop, length, get_or, None, Some, codes, refl, sym, ◌∙◌, ap, append_assoc, arith}
use Rattle.std.specs.Prelude.{filter, if◌then◌else◌}
use Rattle.std.specs.declared.option.Option.{Option}
use Rattle.std.specs.List.{cons_option, flat_map, range_with_len}
use Rattle.std.specs.Option.{option_map, option_or, option_to_list}
use Rattle.std.proofs.lemmas.List.{append-nil, drop_more, map-append, take_more}
use Rattle.std.proofs.lemmas.List.Concat.{flat_map-append}
use Rattle.std.proofs.lemmas.List.Elements.{filter-append}
use Rattle.std.proofs.lemmas.List.FromFn.{filter_of_map_range_with_len_more}
use Rattle.sg_check_statements.specs.sg_facts.declared.shape.Effect.{Effect}
use Rattle.sg_check_statements.specs.sg_facts.declared.shape.Effect.TheVariants.{SetArg, AddArg}
use Rattle.sg_check_statements.specs.sg_facts.declared.shape.FieldShape.{FieldShape}
use Rattle.sg_check_statements.specs.sg_facts.Interface.{has_pair}
use Rattle.sg_check_statements.specs.Effects.{arg_effects}
use Rattle.sg_check_statements.specs.NameSet.{has_name}
use Rattle.sg_check_statements.specs.Params.{has_word}
use Rattle.sg_check_statements.specs.sg_parse.declared.tree.Param.{Param}
use Rattle.sg_check_statements.specs.sg_parse.declared.tree.Statement.{Statement}
use Rattle.sg_shape.specs.Flaws.{is_id_param, second_place}
use Rattle.sg_shape.specs.Inside.Parts.{arg_effect, fields_in}
use Rattle.sg_shape.specs.Prototypes.{Prototype, names_of}
use Rattle.sg_shape.specs.ShapeOfText.{effect_on_name, numbered, state_in, state_of}

-- ---- prototypes and states

module _ (protos : List Prototype) (n : ℕ) (p : Prototype) (within : n < length protos) (is : p ≡ get_or protos n p)
    (told : second_place (names_of (take n protos)) (drop n protos) ≡ second_place [] protos) where
  at_proto : second_place (names_of (take n protos)) (p ∷ drop (n + 1) protos) ≡ second_place [] protos
  at_proto = ap (second_place (names_of (take n protos))) (sym (drop_more protos n p within ∙ ap (λ q. q ∷ drop (n + 1) protos) (sym is))) ∙ told

  -- a prototype that has the name of one before is the first
  pub second_here : has_name (names_of (take n protos)) p.name.bytes ≡ true → Some p.name.at ≡ second_place [] protos
  second_here had =
      ap (λ (b : Bool). if b then Some p.name.at else second_place (names_of (take n protos) ++ p.name.bytes ∷ []) (drop (n + 1) protos)) (sym had) ∙ at_proto

  -- any other isn't
  pub second_later : has_name (names_of (take n protos)) p.name.bytes ≡ false → second_place (names_of (take (n + 1) protos)) (drop (n + 1) protos) ≡ second_place [] protos
  second_later none =
      ap (λ names. second_place names (drop (n + 1) protos))
      (ap names_of (take_more protos n p within ∙ ap (λ q. take n protos ++ q ∷ []) (sym is)) ∙ map-append (λ (q : Prototype). q.name.bytes) (take n protos) (p ∷ []))
      ∙ ap (λ (b : Bool). if b then Some p.name.at else second_place (names_of (take n protos) ++ p.name.bytes ∷ []) (drop (n + 1) protos)) (sym none) ∙ at_proto

module _ (f : List ℕ) (statements : List Statement) (i : ℕ) (s : Statement) (within : i < length statements) (is : s ≡ get_or statements i s)
    (told : state_of f (drop i statements) ≡ state_of f statements) where
  at_state : option_or (state_in f s) (state_of f (drop (i + 1) statements)) ≡ state_of f statements
  at_state = ap (state_of f) (sym (drop_more statements i s within ∙ ap (λ t. t ∷ drop (i + 1) statements) (sym is))) ∙ told

  -- a statement that says a state is the first
  pub state_here : (o : Option (List ℕ)) (g : List ℕ) → o ≡ Some g → o ≡ state_in f s → Some g ≡ state_of f statements
  state_here o g some said = ap (λ d. option_or d (state_of f (drop (i + 1) statements))) (sym some ∙ said) ∙ at_state

  -- any other isn't
  pub state_later : (o : Option (List ℕ)) → o ≡ None → o ≡ state_in f s → state_of f (drop (i + 1) statements) ≡ state_of f statements
  state_later o none said = ap (λ d. option_or d (state_of f (drop (i + 1) statements))) (sym none ∙ said) ∙ at_state

-- ---- arguments

-- a descriptor or a parent is no argument
arg_past : (k : ℕ) (p : Param) (params : List Param) → is_id_param p ≡ true → arg_effects k (p ∷ params) ≡ arg_effects k params
arg_past k p params is =
    ap (λ (b : Bool). if b then arg_effects k params
    else (if has_word p.form (codes "desc_data") then (p.name.bytes, SetArg k) ∷ arg_effects (k + 1) params
    else (if has_word p.form (codes "desc_data_add") then (p.name.bytes, AddArg k) ∷ arg_effects (k + 1) params
    else arg_effects (k + 1) params))) is

-- any other is the next one
arg_here : (k : ℕ) (p : Param) (params : List Param) → is_id_param p ≡ false → arg_effects k (p ∷ params) ≡ option_to_list (arg_effect k p) ++ arg_effects (k + 1) params
arg_here k p params is =
    ap (λ (b : Bool). if b then arg_effects k params
    else (if has_word p.form (codes "desc_data") then (p.name.bytes, SetArg k) ∷ arg_effects (k + 1) params
    else (if has_word p.form (codes "desc_data_add") then (p.name.bytes, AddArg k) ∷ arg_effects (k + 1) params
    else arg_effects (k + 1) params))) is
    ∙ by (has_word p.form (codes "desc_data")) (has_word p.form (codes "desc_data_add")) (arg_effects (k + 1) params)
  where
    by : (t a : Bool) (rest : List (List ℕ × Effect))
        → (if t then (p.name.bytes, SetArg k) ∷ rest else (if a then (p.name.bytes, AddArg k) ∷ rest else rest))
        ≡ option_to_list (if t then Some (p.name.bytes, SetArg k) else (if a then Some (p.name.bytes, AddArg k) else None)) ++ rest
    by true a rest = refl
    by false true rest = refl
    by false false rest = refl

module _ (params : List Param) (i k : ℕ) (p : Param) (list whole : List (List ℕ × Effect)) (within : i < length params) (is : p ≡ get_or params i p)
    (told : list ++ arg_effects k (drop i params) ≡ whole) where
  here : drop i params ≡ p ∷ drop (i + 1) params
  here = drop_more params i p within ∙ ap (λ q. q ∷ drop (i + 1) params) (sym is)

  pub no_argument : is_id_param p ≡ true → list ++ arg_effects k (drop (i + 1) params) ≡ whole
  no_argument id = ap (λ l. list ++ l) (sym (arg_past k p (drop (i + 1) params) id) ∙ ap (arg_effects k) (sym here)) ∙ told

  pub one_argument : (found : Option (List ℕ × Effect)) (new : List (List ℕ × Effect)) → is_id_param p ≡ false → found ≡ arg_effect k p → new ≡ list ++ option_to_list found
      → new ++ arg_effects (k + 1) (drop (i + 1) params) ≡ whole
  one_argument found new other got more =
      ap (λ l. l ++ arg_effects (k + 1) (drop (i + 1) params)) (more ∙ ap (λ o. list ++ option_to_list o) got)
      ∙ append_assoc list (option_to_list (arg_effect k p)) (arg_effects (k + 1) (drop (i + 1) params))
      ∙ ap (λ l. list ++ l) (sym (arg_here k p (drop (i + 1) params) other) ∙ ap (arg_effects k) (sym here)) ∙ told

-- ---- fields

first_of : {X : Type 0} (o : Option X) (xs : List X) → option_to_list o ++ xs ≡ cons_option o xs
first_of None xs = refl
first_of (Some x) xs = refl

pub one_field : (fields : List FieldShape) (i k : ℕ) (f : FieldShape) (effects : List (List ℕ × Effect)) (list whole new : List (ℕ × Effect)) (found : Option Effect)
    → i < length fields → f ≡ get_or fields i f → list ++ numbered k (fields_in (drop i fields)) effects ≡ whole → found ≡ effect_on_name effects f.name.now
    → new ≡ list ++ option_to_list (option_map (λ e. (k, e)) found) → new ++ numbered (k + 1) (fields_in (drop (i + 1) fields)) effects ≡ whole
one_field fields i k f effects list whole new found within is told got more =
    let later : List (ℕ × Effect) = numbered (k + 1) (fields_in (drop (i + 1) fields)) effects in
    let own : List (ℕ × Effect) = option_to_list (option_map (λ e. (k, e)) (effect_on_name effects f.name.now)) in
    ap (λ l. l ++ later) (more ∙ ap (λ o. list ++ option_to_list (option_map (λ e. (k, e)) o)) got)
    ∙ append_assoc list own later
    ∙ ap (λ l. list ++ l) (first_of (option_map (λ e. (k, e)) (effect_on_name effects f.name.now)) later
    ∙ ap (λ l. numbered k (fields_in l) effects) (sym (drop_more fields i f within ∙ ap (λ q. q ∷ drop (i + 1) fields) (sym is))))
    ∙ told

-- ---- pairs

range_more : (a n : ℕ) → range_with_len a (suc n) ≡ range_with_len a n ++ (a + n) ∷ []
range_more a zero = let same : a ≡ a + 0 = omega arith in ap (λ m. m ∷ []) same
range_more a (suc n) =
    let same : a + 1 + n ≡ a + suc n = omega arith in
    ap (λ l. a ∷ l) (range_more (a + 1) n ∙ ap (λ m. range_with_len (a + 1) n ++ m ∷ []) same)

module _ (named : List (ℕ × ℕ)) where
  -- the pairs with one second number more
  pub row_more : (first k : ℕ)
      → filter (λ (p : ℕ × ℕ). has_pair named p.0 p.1) (map (λ b. (first, b)) (range_with_len 1 (k + 1)))
      ≡ filter (λ (p : ℕ × ℕ). has_pair named p.0 p.1) (map (λ b. (first, b)) (range_with_len 1 k)) ++ cond (has_pair named first (k + 1)) ((first, k + 1) ∷ []) []
  row_more first k = filter_of_map_range_with_len_more (λ (p : ℕ × ℕ). has_pair named p.0 p.1) (λ b. (first, b)) 1 k (k + 1) (omega arith)

  -- and with one first number more
  pub rows_more : (count k : ℕ)
      → filter (λ (p : ℕ × ℕ). has_pair named p.0 p.1) (flat_map (λ a. map (λ b. (a, b)) (range_with_len 1 count)) (range_with_len 1 (k + 1)))
      ≡ filter (λ (p : ℕ × ℕ). has_pair named p.0 p.1) (flat_map (λ a. map (λ b. (a, b)) (range_with_len 1 count)) (range_with_len 1 k))
      ++ filter (λ (p : ℕ × ℕ). has_pair named p.0 p.1) (map (λ b. (k + 1, b)) (range_with_len 1 count))
  rows_more count k =
      let test : ℕ × ℕ → Bool = λ p. has_pair named p.0 p.1 in
      let row : ℕ → List (ℕ × ℕ) = λ a. map (λ b. (a, b)) (range_with_len 1 count) in
      let up : k + 1 ≡ suc k = omega arith in
      let last : 1 + k ≡ k + 1 = omega arith in
      ap (λ n. filter test (flat_map row (range_with_len 1 n))) up
      ∙ ap (λ l. filter test (flat_map row l)) (range_more 1 k ∙ ap (λ n. range_with_len 1 k ++ n ∷ []) last)
      ∙ ap (filter test) (flat_map-append row (range_with_len 1 k) ((k + 1) ∷ []))
      ∙ filter-append test (flat_map row (range_with_len 1 k)) (flat_map row ((k + 1) ∷ []))
      ∙ ap (λ l. filter test (flat_map row (range_with_len 1 k)) ++ filter test l) (append-nil (row (k + 1)))
