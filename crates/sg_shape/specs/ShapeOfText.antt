-- The shape that the text of an interface declares by itself, whatever services there are.
use Rattle.std.specs.Prelude.{ℕ, ◌+◌, ◌==◌, Bool, if◌then◌else◌, nat_lt, List, [], ◌∷◌, None, Some, codes, drop, filter, find, length, map}
use Rattle.std.specs.List.{cons_option, filter_map, flat_map, list_any, range_with_len}
use Rattle.std.specs.Option.{option_map, option_map_or, option_or}
use Rattle.std.specs.Str.{bytes_eq}
use Rattle.std.specs.declared.option.Option.{Option}
use Rattle.sg_check_statements.specs.sg_facts.declared.shape.Effect.{Effect}
use Rattle.sg_check_statements.specs.sg_facts.declared.shape.Kind.{Kind}
use Rattle.sg_check_statements.specs.sg_facts.declared.shape.Kind.TheVariants.{Desc, Parent, Word, Text}
use Rattle.sg_check_statements.specs.sg_facts.declared.shape.Leaves.{Leaves}
use Rattle.sg_check_statements.specs.sg_facts.declared.shape.Leaves.TheVariants.{Own, Same, Of}
use Rattle.sg_check_statements.specs.sg_facts.declared.shape.Parents.{Parents}
use Rattle.sg_check_statements.specs.sg_facts.declared.shape.Parents.TheVariants.{Never, Same as SameClient, Cross}
use Rattle.sg_check_statements.specs.sg_facts.Facts.{Facts, Field, Fun}
use Rattle.sg_check_statements.specs.sg_facts.Interface.{has_pair}
use Rattle.sg_check_statements.specs.Effects.{declared_effects}
use Rattle.sg_check_statements.specs.Params.{has_word}
use Rattle.sg_check_statements.specs.Says.{says}
use Rattle.sg_check_statements.specs.sg_parse.declared.tree.Param.{Param}
use Rattle.sg_check_statements.specs.sg_parse.declared.tree.Statement.{Statement}
use Rattle.sg_check_statements.specs.sg_parse.declared.tree.Statement.TheVariants.{Two}
use Rattle.sg_check_statements.specs.sg_parse.declared.tree.Tree.{Tree}
use Rattle.sg_shape.specs.Fields.{fields_of_text}
use Rattle.sg_shape.specs.Prototypes.{Prototype, function_number, protos_of}

-- ---- functions

-- what a parameter after the caller is
abbrev pub kind_of : Param → Kind
kind_of p = if has_word p.form (codes "desc") then Desc else (if has_word p.form (codes "parent_desc") then Parent else (if p.ty.stars == 0 then Word else Text))

-- the state that a statement says a function leaves, by the name of its function
abbrev pub state_in : List ℕ → Statement → Option (List ℕ)
state_in f s = elim s [
  | Two word first second ↦ if bytes_eq word.bytes (codes "sm_state") then (if bytes_eq first.bytes f then Some second.bytes else None) else None
  | _ ↦ None
]

-- the first state that statements say a function leaves
abbrev pub state_of : List ℕ → List Statement → Option (List ℕ)
state_of f [] = None
state_of f (s ∷ statements) = option_or (state_in f s) (state_of f statements)

-- the state that a function leaves: the one before where a statement says that it keeps it, else the one that a statement says, else its own
abbrev pub leaves_of : List Statement → List ℕ → Leaves
leaves_of statements f =
    if says statements (codes "sm_keep") f then Same else option_map_or (λ g. Of (function_number statements g)) (state_of f statements) Own

-- the first of some effects that is on the field of a name
abbrev pub effect_on_name : List (List ℕ × Effect) → List ℕ → Option Effect
effect_on_name effects name = option_map (λ e. e.1) (find (λ e. bytes_eq e.0 name) effects)

-- effects with the numbers of their fields, which count from a number on
abbrev pub numbered : ℕ → List Field → List (List ℕ × Effect) → List (ℕ × Effect)
numbered x [] effects = []
numbered x (f ∷ fields) effects = cons_option (option_map (λ e. (x, e)) (effect_on_name effects f.name)) (numbered (x + 1) fields effects)

-- the function of a prototype
abbrev pub function_of : List Statement → Prototype → Fun
function_of statements p =
    let says_it : List ℕ → Bool = λ word. says statements word p.name.bytes in
    record {
      name = p.name.bytes;
      kinds = map kind_of (drop 1 p.params);
      creation = says_it (codes "sm_creation");
      terminal = says_it (codes "sm_terminal");
      block = says_it (codes "sm_block");
      wakeup = says_it (codes "sm_wakeup");
      query = says_it (codes "sm_query");
      all = says_it (codes "sm_needs_all");
      uses_file = says_it (codes "resc_data");
      leaves = leaves_of statements p.name.bytes;
      effects = numbered 0 (fields_of_text statements) (declared_effects statements p.name.bytes p.ret p.params);
    }

-- ---- transitions and recover steps

-- the pair of functions that a statement names under a word, by their numbers
abbrev pub pair_in : List ℕ → List Statement → Statement → Option (ℕ × ℕ)
pair_in w statements s = elim s [
  | Two word first second ↦ if bytes_eq word.bytes w then Some (function_number statements first.bytes, function_number statements second.bytes) else None
  | _ ↦ None
]

-- the pairs of the numbers from 1 to a count, in order of their first ones, and then of their second ones
abbrev pub pairs_to : ℕ → List (ℕ × ℕ)
pairs_to count = flat_map (λ a. map (λ b. (a, b)) (range_with_len 1 count)) (range_with_len 1 count)

-- the pairs of the numbers from 1 to a count that are among these
abbrev pub in_order : List (ℕ × ℕ) → ℕ → List (ℕ × ℕ)
in_order named count = filter (λ p. has_pair named p.0 p.1) (pairs_to count)

-- the pairs of functions that statements name under a word, each once, in order: the order of the statements is no part of a shape
abbrev pub pairs_of : List ℕ → List Statement → List (ℕ × ℕ)
pairs_of w statements = in_order (filter_map (pair_in w statements) statements) (length (protos_of statements))

-- ---- the shape

-- which parents a word says that descriptors may have
abbrev pub parents_of : List ℕ → Parents
parents_of word = if bytes_eq word (codes "same") then SameClient else (if bytes_eq word (codes "cross") then Cross else Never)

-- the shape with these fields and functions: it blocks where some function may, its rows have data where there are fields, and its descriptors
-- have files where some function uses them
abbrev pub shape_with : Tree → List Field → List Fun → Facts
shape_with tree fields funs = record {
  name = tree.facts.service.bytes;
  parents = parents_of tree.facts.parent.bytes;
  subtree = bytes_eq tree.facts.close.bytes (codes "subtree");
  global = bytes_eq tree.facts.global.bytes (codes "true");
  block = list_any (λ f. f.block) funs;
  has_data = nat_lt 0 (length fields);
  resc_data = list_any (λ f. f.uses_file) funs;
  fields = fields;
  funs = funs;
  moves = pairs_of (codes "sm_transition") tree.statements;
  steps = pairs_of (codes "sm_recover") tree.statements;
}

-- the shape that a text declares: its fields are those that it names, its functions those of its prototypes, each in order
unfoldable pub shape_of_text : Tree → Facts
shape_of_text tree = shape_with tree (fields_of_text tree.statements) (map (function_of tree.statements) (protos_of tree.statements))
