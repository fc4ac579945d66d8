-- What holds of a text with which nothing is wrong, kind by kind.
use Rattle.std.proofs.Common.{◌≡◌, ℕ, suc, ◌+◌, ◌≤◌, Bool, true, false, ◌&&◌, not, List, [], map, length, get_or, None, Some, refl, sym, ◌∙◌, ap, arith}
use Rattle.std.specs.Prelude.{All, find, nat_lt, slice_get, unwrap_or}
use Rattle.std.specs.Bool.{then_some}
use Rattle.std.specs.declared.option.Option.{Option}
use Rattle.std.specs.List.{filter_map}
use Rattle.std.specs.Option.{option_map, option_or}
use Rattle.std.proofs.lemmas.Bool.{ltb-false}
use Rattle.std.proofs.lemmas.Option.{slice_get-get_or, slice_get-map}
use Rattle.sg_check_statements.specs.sg_facts.Allowed.{is_cross}
use Rattle.sg_check_statements.specs.sg_facts.Facts.{fun_at, no_fun}
use Rattle.sg_check_statements.specs.sg_facts.Limits.{most_fields, most_funs}
use Rattle.sg_check_statements.specs.Flaws.{fun_of_name}
use Rattle.sg_check_statements.specs.Says.{fun_number}
use Rattle.sg_check_statements.specs.Shapes.{all_differ}
use Rattle.sg_check_statements.specs.sg_parse.declared.tree.Statement.{Statement}
use Rattle.sg_check_statements.specs.sg_parse.declared.tree.Tree.{Tree}
use Rattle.sg_shape.specs.declared.fault.ShapeFaultKind.{ShapeFaultKind}
use Rattle.sg_shape.specs.declared.fault.ShapeFaultKind.TheVariants.{Limit, DuplicateName, UnknownFunction, BadParams, MixedField, TwoEffects, Contradiction, PrivateLooksAround, QueryTakes, FileWithoutDesc, TextChanged, BlocksOrMakes, StateOfOther, MakesOn, ActsOnNone, NoParents, ReplayWrites, ArgumentLost, ReplayUnknown, RecoverMakes, WrongFact}
use Rattle.sg_shape.specs.Faults.{HasNoShapeFlaw, place_of}
use Rattle.sg_shape.specs.Fields.{first_uses, uses_of}
use Rattle.sg_shape.specs.Flaws.{are_params, contradicts, extra_rule, is_flawed, is_forbidden, unknown_name}
use Rattle.sg_shape.specs.Limits.{most_params}
use Rattle.sg_shape.specs.Prototypes.{Prototype, names_of, protos_of}
use Rattle.sg_shape.specs.ShapeOfText.{function_of, shape_of_text}
use Rattle.sg_shape.proofs.Names.{all_apart, number_at}
use Rattle.sg_shape.proofs.Places.{neither, no_element, no_longer, none_found, none_gathered}

-- ---- the limits

-- the first prototype past the limit; the first of too many parameters; the first use of the first field past the limit; the first rule past it
abbrev extra : List Statement → Option ℕ
extra statements = option_map (λ p. p.name.at) (slice_get (protos_of statements) most_funs)

abbrev too_long : Prototype → Bool
too_long p = nat_lt most_params (length p.params)

abbrev long : List Statement → Option ℕ
long statements = option_map (λ p. p.name.at) (find too_long (protos_of statements))

abbrev next : List Statement → Option ℕ
next statements = option_map (λ u. u.name.at) (slice_get (first_uses (uses_of statements)) most_fields)

abbrev ruled : List Statement → Option ℕ
ruled statements = slice_get (filter_map extra_rule statements) 0

module _ (tree : Tree) (within : place_of tree Limit ≡ None) where
  parts : (extra tree.statements ≡ None) × (option_or (long tree.statements) (option_or (next tree.statements) (ruled tree.statements)) ≡ None)
  unfolding place_of
  parts = neither (extra tree.statements) (option_or (long tree.statements) (option_or (next tree.statements) (ruled tree.statements))) within

  later : (long tree.statements ≡ None) × (option_or (next tree.statements) (ruled tree.statements) ≡ None)
  later = neither (long tree.statements) (option_or (next tree.statements) (ruled tree.statements)) parts.1

  pub few_protos : length (protos_of tree.statements) ≤ most_funs
  few_protos = no_longer (protos_of tree.statements) most_funs (no_element (λ p. p.name.at) (slice_get (protos_of tree.statements) most_funs) parts.0)

  pub few_params : (k : ℕ) (p : Prototype) → slice_get (protos_of tree.statements) k ≡ Some p → length p.params ≤ most_params
  few_params k p at =
      ltb-false most_params (length p.params)
      (none_found too_long (protos_of tree.statements) k p
      (no_element (λ q. q.name.at) (find too_long (protos_of tree.statements)) later.0) at)

  pub all_few : All (λ p. length p.params ≤ most_params) (protos_of tree.statements)
  all_few = λ k d within. few_params k (get_or (protos_of tree.statements) k d) (slice_get-get_or (protos_of tree.statements) k d within)

  pub few_fields : length (first_uses (uses_of tree.statements)) ≤ most_fields
  few_fields =
      no_longer (first_uses (uses_of tree.statements)) most_fields
      (no_element (λ u. u.name.at) (slice_get (first_uses (uses_of tree.statements)) most_fields) (neither (next tree.statements) (ruled tree.statements) later.1).0)

-- ---- the functions

-- the function of a prototype has its name
pub own_name : (statements : List Statement) (p : Prototype) → (function_of statements p).name ≡ p.name.bytes
own_name statements p = refl

module _ (tree : Tree) (sound : HasNoShapeFlaw tree) where
  pub names_differ : all_differ (names_of (protos_of tree.statements)) ≡ true
  unfolding place_of
  names_differ = (all_apart [] (protos_of tree.statements) (sound DuplicateName)).0

  pub all_known : (k : ℕ) (s : Statement) → slice_get tree.statements k ≡ Some s → unknown_name tree.statements s ≡ None
  unfolding place_of
  all_known k s at = none_gathered (unknown_name tree.statements) tree.statements k s (sound UnknownFunction) at

  -- the functions of the shape
  pub own_funs : (shape_of_text tree).funs ≡ map (function_of tree.statements) (protos_of tree.statements)
  unfolding shape_of_text
  own_funs = refl

  module _ (k : ℕ) (p : Prototype) (at : slice_get (protos_of tree.statements) k ≡ Some p) where
    -- a function of the shape has its prototype's number
    pub own_number : fun_number (shape_of_text tree).funs p.name.bytes ≡ Some (suc k)
    own_number =
        let next : 1 + k ≡ suc k = omega arith in
        ap (λ funs. fun_number funs p.name.bytes) own_funs
        ∙ number_at (function_of tree.statements) (own_name tree.statements) 1 (protos_of tree.statements) k p names_differ at ∙ ap Some next

    pub at_number : fun_at (shape_of_text tree).funs (suc k) ≡ function_of tree.statements p
    at_number =
        ap (λ funs. unwrap_or (slice_get funs k) no_fun) own_funs
        ∙ ap (λ o. unwrap_or o no_fun) (slice_get-map (function_of tree.statements) (protos_of tree.statements) k ∙ ap (option_map (function_of tree.statements)) at)

    pub of_name : fun_of_name (shape_of_text tree) p.name.bytes ≡ function_of tree.statements p
    of_name = ap (λ o. fun_at (shape_of_text tree).funs (unwrap_or o 0)) own_number ∙ at_number

    -- where no prototype has a flaw, this one hasn't
    clear_here : (kind : ShapeFaultKind) → find (is_flawed kind (shape_of_text tree) tree.statements) (protos_of tree.statements) ≡ None
        → is_flawed kind (shape_of_text tree) tree.statements p ≡ false
    clear_here kind none = none_found (is_flawed kind (shape_of_text tree) tree.statements) (protos_of tree.statements) k p none at

    no_proto : (kind : ShapeFaultKind) → option_map (λ q. q.name.at) (find (is_flawed kind (shape_of_text tree) tree.statements) (protos_of tree.statements)) ≡ None
        → is_flawed kind (shape_of_text tree) tree.statements p ≡ false
    no_proto kind none = clear_here kind (no_element (λ q. q.name.at) (find (is_flawed kind (shape_of_text tree) tree.statements) (protos_of tree.statements)) none)

    pub good_params : not (are_params p.params) ≡ false
    unfolding place_of
    good_params = no_proto BadParams (sound BadParams)

    pub agreed : contradicts tree.statements p.name.bytes ≡ false
    unfolding place_of
    agreed = no_proto Contradiction (sound Contradiction)

    pub one_each : is_flawed TwoEffects (shape_of_text tree) tree.statements p ≡ false
    unfolding place_of
    one_each = no_proto TwoEffects (sound TwoEffects)

    -- what its function isn't
    is_not : (kind : ShapeFaultKind) → is_forbidden kind (shape_of_text tree) (unwrap_or (fun_number (shape_of_text tree).funs p.name.bytes) 0) (fun_of_name (shape_of_text tree) p.name.bytes) ≡ false
        → is_forbidden kind (shape_of_text tree) (suc k) (function_of tree.statements p) ≡ false
    is_not kind none =
        ap (is_forbidden kind (shape_of_text tree) (suc k)) (sym of_name)
        ∙ ap (λ o. is_forbidden kind (shape_of_text tree) (unwrap_or o 0) (fun_of_name (shape_of_text tree) p.name.bytes)) (sym own_number) ∙ none

    pub not_forbidden : (kind : ShapeFaultKind) → is_forbidden kind (shape_of_text tree) (suc k) (function_of tree.statements p) ≡ false
    unfolding place_of
    not_forbidden Limit = refl
    not_forbidden DuplicateName = refl
    not_forbidden UnknownFunction = refl
    not_forbidden BadParams = refl
    not_forbidden MixedField = refl
    not_forbidden TwoEffects = refl
    not_forbidden Contradiction = refl
    not_forbidden PrivateLooksAround = is_not PrivateLooksAround (no_proto PrivateLooksAround (neither (then_some (not (shape_of_text tree).global && is_cross (shape_of_text tree).parents) tree.facts.parent.at) (option_map (λ q. q.name.at) (find (is_flawed PrivateLooksAround (shape_of_text tree) tree.statements) (protos_of tree.statements))) (sound PrivateLooksAround)).1)
    not_forbidden QueryTakes = is_not QueryTakes (no_proto QueryTakes (sound QueryTakes))
    not_forbidden FileWithoutDesc = is_not FileWithoutDesc (no_proto FileWithoutDesc (sound FileWithoutDesc))
    not_forbidden TextChanged = is_not TextChanged (no_proto TextChanged (sound TextChanged))
    not_forbidden BlocksOrMakes = is_not BlocksOrMakes (no_proto BlocksOrMakes (sound BlocksOrMakes))
    not_forbidden StateOfOther = is_not StateOfOther (no_proto StateOfOther (sound StateOfOther))
    not_forbidden MakesOn = is_not MakesOn (no_proto MakesOn (sound MakesOn))
    not_forbidden ActsOnNone = is_not ActsOnNone (no_proto ActsOnNone (sound ActsOnNone))
    not_forbidden NoParents = is_not NoParents (no_proto NoParents (sound NoParents))
    not_forbidden ReplayWrites = is_not ReplayWrites (no_proto ReplayWrites (sound ReplayWrites))
    not_forbidden ArgumentLost = is_not ArgumentLost (no_proto ArgumentLost (sound ArgumentLost))
    not_forbidden ReplayUnknown = is_not ReplayUnknown (no_proto ReplayUnknown (sound ReplayUnknown))
    not_forbidden RecoverMakes = is_not RecoverMakes (no_proto RecoverMakes (sound RecoverMakes))
    not_forbidden WrongFact = refl
