-- The functions of a text with which nothing is wrong.
use Rattle.std.proofs.Common.{◌≡◌, ℕ, zero, suc, ◌+◌, ◌≤◌, ◌==◌, Bool, true, false, cond, ◌&&◌, ◌||◌, not, List, [], ◌∷◌, map, drop, length, None, Some, refl, sym, ◌∙◌, ap, subst, codes, arith}
use Rattle.std.specs.Prelude.{count_by, if◌then◌else◌, nat_le, slice_get}
use Rattle.std.specs.Bool.{then_some}
use Rattle.std.specs.List.{list_any, list_all}
use Rattle.std.proofs.lemmas.Bool.{and_parts, le-leb, leb-true, not-false, or_left, or_right}
use Rattle.std.proofs.lemmas.List.{length-map}
use Rattle.std.proofs.lemmas.List.Sums.{sum_by-cons}
use Rattle.sg_check_statements.specs.sg_facts.declared.shape.Kind.TheVariants.{Desc, Parent, Word, Text}
use Rattle.sg_check_statements.specs.sg_facts.Allowed.{count_args, is_allowed, is_cross, takes_among}
use Rattle.sg_check_statements.specs.sg_facts.Facts.{Fun}
use Rattle.sg_check_statements.specs.sg_facts.Inside.Rows.{is_desc, is_parent}
use Rattle.sg_check_statements.specs.sg_facts.Walks.{sets_caller}
use Rattle.sg_check_statements.specs.Effects.{declared_effects}
use Rattle.sg_check_statements.specs.Params.{has_word, is_caller}
use Rattle.sg_check_statements.specs.Shapes.{all_differ}
use Rattle.sg_check_statements.specs.sg_parse.declared.tree.Param.{Param}
use Rattle.sg_check_statements.specs.sg_parse.declared.tree.Tree.{Tree}
use Rattle.sg_shape.specs.declared.fault.ShapeFaultKind.TheVariants.{Limit, PrivateLooksAround}
use Rattle.sg_shape.specs.Faults.{HasNoShapeFlaw, place_of}
use Rattle.sg_shape.specs.Fields.{field_at, fields_of_text, first_uses, uses_of}
use Rattle.sg_shape.specs.Flaws.{are_params, first_proto, has_its_type, is_flawed, is_id_param}
use Rattle.sg_shape.specs.Prototypes.{Prototype, protos_of}
use Rattle.sg_shape.specs.ShapeOfText.{function_of, kind_of, numbered, shape_of_text}
use Rattle.sg_shape.proofs.Allowed.{IsGood, allowed}
use Rattle.sg_shape.proofs.Declared.{effects_among, effects_into}
use Rattle.sg_shape.proofs.OnFields.{numbered_pass, once, one_caller}
use Rattle.sg_shape.proofs.Flawless.{few_fields, good_params, not_forbidden, own_funs}
use Rattle.sg_shape.proofs.Places.{neither, some_passes}
use Rattle.sg_shape.proofs.Naming.{field_names, first_differ}

-- ---- descriptors and parents

counted : (p : Param) (params : List Param) → count_by is_id_param (p ∷ params) ≡ cond (is_id_param p) 1 0 + count_by is_id_param params
counted p params = sum_by-cons (λ q. cond (is_id_param q) 1 0) p params

-- where one is a descriptor or a parent there is one
some_id : (params : List Param) → (list_any is_desc (map kind_of params) || list_any is_parent (map kind_of params)) ≡ true → 1 ≤ count_by is_id_param params
some_id [] is = absurd (cc is)
some_id (p ∷ params) is =
    let most = by (has_word p.form (codes "desc")) (has_word p.form (codes "parent_desc")) (p.ty.stars == 0) is (λ later. some_id params later) in
    omega (arith, most, counted p params)
  where
    by : (d q s : Bool) → (list_any is_desc ((if d then Desc else (if q then Parent else (if s then Word else Text))) ∷ map kind_of params)
        || list_any is_parent ((if d then Desc else (if q then Parent else (if s then Word else Text))) ∷ map kind_of params)) ≡ true
        → ((list_any is_desc (map kind_of params) || list_any is_parent (map kind_of params)) ≡ true → 1 ≤ count_by is_id_param params)
        → 1 ≤ cond (d || q) 1 0 + count_by is_id_param params
    by true q s is later = omega arith
    by false true s is later = omega arith
    by false false true is later = let rest = later is in omega (arith, rest)
    by false false false is later = let rest = later is in omega (arith, rest)

-- where one is a descriptor and one a parent there are two
two_ids : (params : List Param) → (list_any is_desc (map kind_of params) && list_any is_parent (map kind_of params)) ≡ true → 2 ≤ count_by is_id_param params
two_ids [] is = absurd (cc is)
two_ids (p ∷ params) is =
    let most = by (has_word p.form (codes "desc")) (has_word p.form (codes "parent_desc")) (p.ty.stars == 0) is (λ later. two_ids params later) in
    omega (arith, most, counted p params)
  where
    by : (d q s : Bool) → (list_any is_desc ((if d then Desc else (if q then Parent else (if s then Word else Text))) ∷ map kind_of params)
        && list_any is_parent ((if d then Desc else (if q then Parent else (if s then Word else Text))) ∷ map kind_of params)) ≡ true
        → ((list_any is_desc (map kind_of params) && list_any is_parent (map kind_of params)) ≡ true → 2 ≤ count_by is_id_param params)
        → 2 ≤ cond (d || q) 1 0 + count_by is_id_param params
    by true q s is later =
        let rest = some_id params (or_right (list_any is_desc (map kind_of params)) (list_any is_parent (map kind_of params)) is) in omega (arith, rest)
    by false true s is later =
        let rest = some_id params (or_left (list_any is_desc (map kind_of params)) (list_any is_parent (map kind_of params)) (and_parts (list_any is_desc (map kind_of params)) true is).0) in omega (arith, rest)
    by false false true is later = let rest = later is in omega (arith, rest)
    by false false false is later = let rest = later is in omega (arith, rest)

apart_where : (params : List Param) → nat_le (count_by is_id_param params) 1 ≡ true → (list_any is_desc (map kind_of params) && list_any is_parent (map kind_of params)) ≡ false
apart_where params few = by (list_any is_desc (map kind_of params) && list_any is_parent (map kind_of params)) refl
  where
    by : (b : Bool) → (list_any is_desc (map kind_of params) && list_any is_parent (map kind_of params)) ≡ b → b ≡ false
    by true told = let most = leb-true (count_by is_id_param params) 1 few in absurd (omega (arith, most, two_ids params told))
    by false told = refl

-- ---- a function of a text

map_at : {X Y : Type 0} (h : X → Y) (xs : List X) (k : ℕ) (y : Y) → slice_get (map h xs) k ≡ Some y → (x : X) × (slice_get xs k ≡ Some x) × (h x ≡ y)
map_at h [] k y at = absurd (cc at)
map_at h (x ∷ xs) zero y at = (x, refl, cc at)
map_at h (x ∷ xs) (suc k) y at = map_at h xs k y at

module _ (tree : Tree) (sound : HasNoShapeFlaw tree) where
  fields_differ : all_differ (map (λ f. f.name) (fields_of_text tree.statements)) ≡ true
  fields_differ = ap all_differ (field_names (first_uses (uses_of tree.statements))) ∙ first_differ (uses_of tree.statements)

  file_known : (k : ℕ) (f : Fun) → slice_get (shape_of_text tree).funs k ≡ Some f → f.uses_file ≡ true → (shape_of_text tree).resc_data ≡ true
  unfolding shape_of_text
  file_known k f at told = some_passes (λ g. g.uses_file) (map (function_of tree.statements) (protos_of tree.statements)) k f at told

  -- the effects of a function, by its parameters
  good_effects : (p : Prototype) (params : List Param) → p.params ≡ params → not (are_params params) ≡ false
      → (list_all (λ e. takes_among (count_args (map kind_of (drop 1 p.params))) e.1) (numbered 0 (fields_of_text tree.statements) (declared_effects tree.statements p.name.bytes p.ret p.params)) ≡ true)
      × (nat_le (count_by (λ e. sets_caller e.1) (numbered 0 (fields_of_text tree.statements) (declared_effects tree.statements p.name.bytes p.ret p.params))) 1 ≡ true)
      × ((list_any is_desc (map kind_of (drop 1 p.params)) && list_any is_parent (map kind_of (drop 1 p.params))) ≡ false)
  good_effects p [] is good = absurd (cc good)
  good_effects p (caller ∷ later) is good =
      let ss = tree.statements in
      let fields = fields_of_text ss in
      let parts = and_parts (is_caller caller && list_all has_its_type later) (nat_le (count_by is_id_param later) 1) (not-false (are_params (caller ∷ later)) good) in (
        subst (λ params. list_all (λ e. takes_among (count_args (map kind_of (drop 1 params))) e.1) (numbered 0 (fields_of_text ss) (declared_effects ss p.name.bytes p.ret params)) ≡ true) (sym is)
            (numbered_pass (takes_among (count_args (map kind_of later))) 0 fields (declared_effects ss p.name.bytes p.ret (caller ∷ later)) (effects_among ss p.name.bytes p.ret caller later)),
        subst (λ params. nat_le (count_by (λ e. sets_caller e.1) (numbered 0 (fields_of_text ss) (declared_effects ss p.name.bytes p.ret params))) 1 ≡ true) (sym is)
            (le-leb (count_by (λ e. sets_caller e.1) (numbered 0 fields (declared_effects ss p.name.bytes p.ret (caller ∷ later)))) 1
            (one_caller caller.name.bytes (declared_effects ss p.name.bytes p.ret (caller ∷ later)) (effects_into ss p.name.bytes p.ret caller later) 0 fields fields_differ)),
        subst (λ params. (list_any is_desc (map kind_of (drop 1 params)) && list_any is_parent (map kind_of (drop 1 params))) ≡ false) (sym is)
            (apart_where later parts.1),
      )

  good_proto : (k : ℕ) (p : Prototype) → slice_get (protos_of tree.statements) k ≡ Some p → ((function_of tree.statements p).uses_file ≡ true → (shape_of_text tree).resc_data ≡ true)
      → IsGood (shape_of_text tree) (suc k) (function_of tree.statements p)
  good_proto k p at file =
      let parts = good_effects p p.params refl (good_params tree sound k p at) in
      record {
        none = not_forbidden tree sound k p at;
        once = once 0 (fields_of_text tree.statements) (declared_effects tree.statements p.name.bytes p.ret p.params);
        among = parts.0;
        callers = parts.1;
        apart = parts.2;
        file = file;
      }

  good : (k : ℕ) (f : Fun) → slice_get (shape_of_text tree).funs k ≡ Some f → IsGood (shape_of_text tree) (suc k) f
  good k f at =
      let own = map_at (function_of tree.statements) (protos_of tree.statements) k f (ap (λ funs. slice_get funs k) (sym (own_funs tree sound)) ∙ at) in
      subst (IsGood (shape_of_text tree) (suc k)) own.2 (good_proto k own.0 own.1 (λ told. file_known k f at (ap (λ g. g.uses_file) (sym own.2) ∙ told)))

  few : length (shape_of_text tree).fields ≤ 8
  unfolding shape_of_text
  few = let some = length-map (first_uses (uses_of tree.statements)) field_at in omega (arith, some, few_fields tree (sound Limit))

  not_told : (b : Bool) (at : ℕ) → then_some b at ≡ None → b ≡ false
  not_told true at is = absurd (cc is)
  not_told false at is = refl

  apart : (not (shape_of_text tree).global && is_cross (shape_of_text tree).parents) ≡ false
  unfolding place_of
  apart =
      not_told (not (shape_of_text tree).global && is_cross (shape_of_text tree).parents) tree.facts.parent.at
      (neither (then_some (not (shape_of_text tree).global && is_cross (shape_of_text tree).parents) tree.facts.parent.at)
      (first_proto (is_flawed PrivateLooksAround (shape_of_text tree) tree.statements) tree.statements) (sound PrivateLooksAround)).0

  -- the shape keeps to what every shape keeps to
  pub keeps : is_allowed (shape_of_text tree) ≡ true
  keeps = allowed (shape_of_text tree) good few apart
