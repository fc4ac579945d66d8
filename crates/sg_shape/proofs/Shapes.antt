-- The shape of a text with which nothing is wrong is within the limits, and names its own functions.
use Rattle.std.proofs.Common.{◌≡◌, ℕ, suc, ◌<◌, ◌≤◌, Bool, true, false, ◌&&◌, ◌||◌, not, List, [], ◌∷◌, map, length, None, Some, codes, refl, sym, ◌∙◌, ap, arith}
use Rattle.std.specs.Prelude.{if◌then◌else◌, nat_le, slice_get}
use Rattle.std.specs.declared.option.Option.{Option}
use Rattle.std.specs.Bool.{then_some}
use Rattle.std.specs.List.{filter_map, list_all}
use Rattle.std.specs.Option.{option_map_or, option_or}
use Rattle.std.specs.Str.{bytes_eq}
use Rattle.std.proofs.lemmas.Bool.{and_from, le-leb}
use Rattle.std.proofs.lemmas.List.{length-map}
use Rattle.std.proofs.lemmas.List.Folds.{list_all-map}
use Rattle.std.proofs.lemmas.Option.{slice_get_within}
use Rattle.sg_check_statements.specs.sg_facts.declared.shape.Leaves.TheVariants.{Own, Same, Of}
use Rattle.sg_check_statements.specs.sg_facts.Limits.{most_fields, most_funs}
use Rattle.sg_check_statements.specs.NameSet.{has_name}
use Rattle.sg_check_statements.specs.Says.{has_proto, names_two, says}
use Rattle.sg_check_statements.specs.Shapes.{all_differ, are_funs, is_fun, is_shape, leaves_fun}
use Rattle.sg_check_statements.specs.sg_parse.declared.tree.Statement.{Statement}
use Rattle.sg_check_statements.specs.sg_parse.declared.tree.Statement.TheVariants.{Two}
use Rattle.sg_check_statements.specs.sg_parse.declared.tree.Tree.{Tree}
use Rattle.sg_shape.specs.declared.fault.ShapeFaultKind.TheVariants.{Limit}
use Rattle.sg_shape.specs.Faults.{HasNoShapeFlaw}
use Rattle.sg_shape.specs.Fields.{field_at, first_uses, uses_of}
use Rattle.sg_shape.specs.Flaws.{unknown_name}
use Rattle.sg_shape.specs.Prototypes.{Prototype, function_number, names_of, number_from, protos_of}
use Rattle.sg_shape.specs.ShapeOfText.{function_of, in_order, leaves_of, pair_in, shape_of_text, state_in, state_of}
use Rattle.sg_shape.proofs.Flawless.{all_known, few_fields, few_protos, names_differ}
use Rattle.sg_shape.proofs.Names.{placed, proto_names}
use Rattle.sg_shape.proofs.Listing.{all_within}
use Rattle.sg_shape.proofs.Places.{all_pass, neither}

-- ---- states

-- a state that statements say a function leaves is said by one of them
pub said_at : (f : List ℕ) (statements : List Statement) (g : List ℕ) → state_of f statements ≡ Some g
    → (k : ℕ) × (s : Statement) × (slice_get statements k ≡ Some s) × (state_in f s ≡ Some g)
said_at f [] g is = absurd (cc is)
said_at f (s ∷ statements) g is = by (state_in f s) refl is (λ later. said_at f statements g later)
  where
    by : (o : Option (List ℕ)) → state_in f s ≡ o → option_or o (state_of f statements) ≡ Some g
        → (state_of f statements ≡ Some g → (k : ℕ) × (t : Statement) × (slice_get statements k ≡ Some t) × (state_in f t ≡ Some g))
        → (k : ℕ) × (t : Statement) × (slice_get (s ∷ statements) k ≡ Some t) × (state_in f t ≡ Some g)
    by None told there later = let rest = later there in (suc rest.0, rest.1, rest.2, rest.3)
    by (Some h) told here later = let same : h ≡ g = cc here in (0, s, refl, told ∙ ap Some same)

not_told : (b : Bool) (at : ℕ) → then_some b at ≡ None → b ≡ false
not_told true at is = absurd (cc is)
not_told false at is = refl

-- a statement that names a state names a function that has a prototype, where none is unknown
state_known : (statements : List Statement) (f g : List ℕ) (s : Statement) → unknown_name statements s ≡ None → state_in f s ≡ Some g → has_proto statements g ≡ true
state_known statements f g (Two word first second) known is =
    by (bytes_eq word.bytes (codes "sm_state")) (bytes_eq first.bytes f) (bytes_eq word.bytes (codes "sm_transition")) (bytes_eq word.bytes (codes "sm_recover")) (has_proto statements second.bytes) refl
    (neither (then_some (not (has_proto statements first.bytes)) first.at) (then_some (names_two word.bytes && not (has_proto statements second.bytes)) second.at) known).1 is
  where
    by : (a b c d e : Bool) → has_proto statements second.bytes ≡ e → then_some (((a || c) || d) && not e) second.at ≡ None
        → (if a then (if b then Some second.bytes else None) else None) ≡ Some g → has_proto statements g ≡ true
    by false b c d e told none some = absurd (cc some)
    by true false c d e told none some = absurd (cc some)
    by true true c d true told none some = let same : second.bytes ≡ g = cc some in ap (has_proto statements) (sym same) ∙ told
    by true true c d false told none some = absurd (cc none)
state_known statements f g _ known is = absurd (cc is)

module _ (tree : Tree) (sound : HasNoShapeFlaw tree) where
  -- the function of a state that a function leaves has a prototype
  pub known_state : (f g : List ℕ) → state_of f tree.statements ≡ Some g → has_name (names_of (protos_of tree.statements)) g ≡ true
  known_state f g is =
      let said = said_at f tree.statements g is in
      sym (proto_names tree.statements g) ∙ state_known tree.statements f g said.1 (all_known tree sound said.0 said.1 said.2) said.3

  -- the number of a name of a function is one of the functions'
  pub number_is : (g : List ℕ) → has_name (names_of (protos_of tree.statements)) g ≡ true → is_fun (length (protos_of tree.statements)) (function_number tree.statements g) ≡ true
  number_is g among =
      let at = placed 1 (names_of (protos_of tree.statements)) g among in
      let low : 1 ≤ number_from 1 (names_of (protos_of tree.statements)) g = omega (arith, at.1) in
      let inside : at.0 < length (names_of (protos_of tree.statements)) = slice_get_within (names_of (protos_of tree.statements)) at.0 g at.2 in
      let as_many : length (names_of (protos_of tree.statements)) ≡ length (protos_of tree.statements) = length-map (protos_of tree.statements) (λ p. p.name.bytes) in
      let high : number_from 1 (names_of (protos_of tree.statements)) g ≤ length (protos_of tree.statements) = omega (arith, at.1, inside, as_many) in
      and_from (nat_le 1 (number_from 1 (names_of (protos_of tree.statements)) g)) (nat_le (number_from 1 (names_of (protos_of tree.statements)) g) (length (protos_of tree.statements)))
      (le-leb 1 (number_from 1 (names_of (protos_of tree.statements)) g) low)
      (le-leb (number_from 1 (names_of (protos_of tree.statements)) g) (length (protos_of tree.statements)) high)

  -- the state that a function leaves is one of a function
  leaves_one : (f : List ℕ) → leaves_fun (length (protos_of tree.statements)) (leaves_of tree.statements f) ≡ true
  leaves_one f = by (says tree.statements (codes "sm_keep") f) (state_of f tree.statements) refl
    where
      by : (b : Bool) (o : Option (List ℕ)) → state_of f tree.statements ≡ o
          → leaves_fun (length (protos_of tree.statements)) (if b then Same else option_map_or (λ g. Of (function_number tree.statements g)) o Own) ≡ true
      by true o told = refl
      by false None told = refl
      by false (Some g) told = number_is g (known_state f g told)

-- ---- the shape

funs_named : (statements : List Statement) (protos : List Prototype) → map (λ f. f.name) (map (function_of statements) protos) ≡ names_of protos
funs_named statements [] = refl
funs_named statements (p ∷ protos) = ap (λ l. p.name.bytes ∷ l) (funs_named statements protos)

all_six : (a b c d e f : Bool) → a ≡ true → b ≡ true → c ≡ true → d ≡ true → e ≡ true → f ≡ true → (a && b && c && d && e && f) ≡ true
all_six a b c d e f ha hb hc hd he hf =
    and_from (a && b && c && d && e) f (and_from (a && b && c && d) e (and_from (a && b && c) d (and_from (a && b) c (and_from a b ha hb) hc) hd) he) hf

pub fits : (tree : Tree) → HasNoShapeFlaw tree → is_shape (shape_of_text tree) ≡ true
unfolding shape_of_text
fits tree sound =
    let ss = tree.statements in
    let ps = protos_of ss in
    let funs = map (function_of ss) ps in
    let fields = map field_at (first_uses (uses_of ss)) in
    let count : length funs ≡ length ps = length-map ps (function_of ss) in
    let some : length fields ≡ length (first_uses (uses_of ss)) = length-map (first_uses (uses_of ss)) field_at in
    let few : length funs ≤ most_funs = omega (arith, count, few_protos tree (sound Limit)) in
    let narrow : length fields ≤ most_fields = omega (arith, some, few_fields tree (sound Limit)) in
    let moves = filter_map (pair_in (codes "sm_transition") ss) ss in
    let steps = filter_map (pair_in (codes "sm_recover") ss) ss in
    all_six (nat_le (length funs) most_funs) (nat_le (length fields) most_fields) (all_differ (map (λ f. f.name) funs))
    (list_all (are_funs (length funs)) (in_order moves (length ps))) (list_all (are_funs (length funs)) (in_order steps (length ps))) (list_all (λ f. leaves_fun (length funs) f.leaves) funs)
    (le-leb (length funs) most_funs few) (le-leb (length fields) most_fields narrow)
    (ap all_differ (funs_named ss ps) ∙ names_differ tree sound)
    (ap (λ n. list_all (are_funs n) (in_order moves (length ps))) count ∙ all_within moves (length ps))
    (ap (λ n. list_all (are_funs n) (in_order steps (length ps))) count ∙ all_within steps (length ps))
    (list_all-map (λ f. leaves_fun (length funs) f.leaves) (function_of ss) ps
    ∙ all_pass (λ p. leaves_fun (length funs) (leaves_of ss p.name.bytes)) ps
    (λ k p at. ap (λ n. leaves_fun n (leaves_of ss p.name.bytes)) count ∙ leaves_one tree sound p.name.bytes))
