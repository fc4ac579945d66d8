-- What the program makes, as plain data.
use Rattle.std.proofs.Common.{◌≡◌, ℕ, Bool, List, [], ◌∷◌, map, drop, length, refl, ◌∙◌, ap}
use Rattle.std.specs.Prelude.{codes, nat_lt}
use Rattle.std.specs.List.{list_any}
use Rattle.std.specs.Str.{bytes_eq}
use Rattle.sg_check_statements.specs.sg_facts.declared.shape.Effect.{Effect}
use Rattle.sg_check_statements.specs.sg_facts.declared.shape.FunShape.{FunShape}
use Rattle.sg_check_statements.specs.sg_facts.declared.shape.Kind.{Kind}
use Rattle.sg_check_statements.specs.sg_facts.declared.shape.Leaves.{Leaves}
use Rattle.sg_check_statements.specs.sg_facts.declared.shape.Parents.{Parents}
use Rattle.sg_check_statements.specs.sg_facts.declared.shape.Shape.{Shape}
use Rattle.sg_check_statements.specs.sg_facts.Facts.{Facts, Field, Fun, all_bit, block_bit, creation_bit, facts_of, fun_of_shape, has_flag, query_bit, terminal_bit, uses_file_bit, wakeup_bit}
use Rattle.sg_check_statements.specs.sg_facts.Fields.{number_of}
use Rattle.sg_check_statements.specs.Effects.{declared_effects}
use Rattle.sg_check_statements.specs.Says.{says}
use Rattle.sg_check_statements.specs.sg_parse.declared.tree.Statement.{Statement}
use Rattle.sg_check_statements.specs.sg_parse.declared.tree.Tree.{Tree}
use Rattle.sg_check_statements.proofs.Bits.{bit_of}
use Rattle.sg_shape.specs.Fields.{fields_of_text}
use Rattle.sg_shape.specs.Inside.Parts.{fields_in, flags_said}
use Rattle.sg_shape.specs.Prototypes.{Prototype, protos_of}
use Rattle.sg_shape.specs.ShapeOfText.{function_of, kind_of, leaves_of, numbered, pairs_of, parents_of, shape_of_text}

-- pairs as plain data are themselves
pub same_pairs : {X Y : Type 0} (pairs : List (X × Y)) → map (λ p. (p.0, p.1)) pairs ≡ pairs
same_pairs [] = refl
same_pairs (p ∷ pairs) = ap (λ l. p ∷ l) (same_pairs pairs)

-- a function whose flags are a number, as plain data
abbrev flagged : List ℕ → List Kind → ℕ → Leaves → List (ℕ × Effect) → Fun
flagged name kinds flags leaves effects = record {
  name = name;
  kinds = kinds;
  creation = has_flag flags creation_bit;
  terminal = has_flag flags terminal_bit;
  block = has_flag flags block_bit;
  wakeup = has_flag flags wakeup_bit;
  query = has_flag flags query_bit;
  all = has_flag flags all_bit;
  uses_file = has_flag flags uses_file_bit;
  leaves = leaves;
  effects = effects;
}

-- a function with its flags one by one
abbrev told : List ℕ → List Kind → Leaves → List (ℕ × Effect) → Bool → Bool → Bool → Bool → Bool → Bool → Bool → Fun
told name kinds leaves effects creation terminal block wakeup query all uses_file = record {
  name = name;
  kinds = kinds;
  creation = creation;
  terminal = terminal;
  block = block;
  wakeup = wakeup;
  query = query;
  all = all;
  uses_file = uses_file;
  leaves = leaves;
  effects = effects;
}

-- the flags that statements say of a function are the bits of their number
module _ (statements : List Statement) (f name : List ℕ) (kinds : List Kind) (leaves : Leaves) (effects : List (ℕ × Effect)) where
  abbrev flags : List Bool
  flags = flags_said statements f

  abbrev bit : ℕ → Bool
  bit k = has_flag (number_of (flags_said statements f)) k

  abbrev say : List ℕ → Bool
  say word = says statements word f

  abbrev of : Bool → Bool → Bool → Bool → Bool → Bool → Bool → Fun
  of creation terminal block wakeup query all uses_file = told name kinds leaves effects creation terminal block wakeup query all uses_file

  flags_told : flagged name kinds (number_of (flags_said statements f)) leaves effects
      ≡ told name kinds leaves effects (says statements (codes "sm_creation") f) (says statements (codes "sm_terminal") f) (says statements (codes "sm_block") f)
      (says statements (codes "sm_wakeup") f) (says statements (codes "sm_query") f) (says statements (codes "sm_needs_all") f) (says statements (codes "resc_data") f)
  flags_told =
      ap (λ b. of b (bit 1) (bit 2) (bit 3) (bit 4) (bit 5) (bit 6)) (bit_of flags 0)
      ∙ ap (λ b. of (say (codes "sm_creation")) b (bit 2) (bit 3) (bit 4) (bit 5) (bit 6)) (bit_of flags 1)
      ∙ ap (λ b. of (say (codes "sm_creation")) (say (codes "sm_terminal")) b (bit 3) (bit 4) (bit 5) (bit 6)) (bit_of flags 2)
      ∙ ap (λ b. of (say (codes "sm_creation")) (say (codes "sm_terminal")) (say (codes "sm_block")) b (bit 4) (bit 5) (bit 6)) (bit_of flags 3)
      ∙ ap (λ b. of (say (codes "sm_creation")) (say (codes "sm_terminal")) (say (codes "sm_block")) (say (codes "sm_wakeup")) b (bit 5) (bit 6)) (bit_of flags 4)
      ∙ ap (λ b. of (say (codes "sm_creation")) (say (codes "sm_terminal")) (say (codes "sm_block")) (say (codes "sm_wakeup")) (say (codes "sm_query")) b (bit 6)) (bit_of flags 5)
      ∙ ap (λ b. of (say (codes "sm_creation")) (say (codes "sm_terminal")) (say (codes "sm_block")) (say (codes "sm_wakeup")) (say (codes "sm_query")) (say (codes "sm_needs_all")) b) (bit_of flags 6)

-- a function that is made of what a prototype declares is that of the prototype
pub function_is : (statements : List Statement) (p : Prototype) (f : FunShape)
    → f.name.now ≡ p.name.bytes → f.kinds.now ≡ map kind_of (drop 1 p.params) → f.flags ≡ number_of (flags_said statements p.name.bytes) → f.leaves ≡ leaves_of statements p.name.bytes
    → f.effects.now ≡ numbered 0 (fields_of_text statements) (declared_effects statements p.name.bytes p.ret p.params)
    → fun_of_shape f ≡ function_of statements p
function_is statements p f name kinds flags leaves effects =
    let own : List (ℕ × Effect) = numbered 0 (fields_of_text statements) (declared_effects statements p.name.bytes p.ret p.params) in
    ap (λ e. flagged f.name.now f.kinds.now f.flags f.leaves e) (same_pairs f.effects.now ∙ effects)
    ∙ ap (λ n. flagged n f.kinds.now f.flags f.leaves own) name
    ∙ ap (λ k. flagged p.name.bytes k f.flags f.leaves own) kinds
    ∙ ap (λ l. flagged p.name.bytes (map kind_of (drop 1 p.params)) f.flags l own) leaves
    ∙ ap (λ b. flagged p.name.bytes (map kind_of (drop 1 p.params)) b (leaves_of statements p.name.bytes) own) flags
    ∙ flags_told statements p.name.bytes p.name.bytes (map kind_of (drop 1 p.params)) (leaves_of statements p.name.bytes) own

-- a shape by its parts
abbrev parted : List ℕ → Parents → Bool → Bool → Bool → Bool → Bool → List Field → List Fun → List (ℕ × ℕ) → List (ℕ × ℕ) → Facts
parted name parents subtree global block has_data resc_data fields funs moves steps = record {
  name = name;
  parents = parents;
  subtree = subtree;
  global = global;
  block = block;
  has_data = has_data;
  resc_data = resc_data;
  fields = fields;
  funs = funs;
  moves = moves;
  steps = steps;
}

module _ (tree : Tree) (s : Shape) where
  abbrev funs_in : List Fun
  funs_in = map fun_of_shape s.funs.now

  abbrev moves_in : List (ℕ × ℕ)
  moves_in = map (λ p. (p.0, p.1)) s.moves.now

  abbrev steps_in : List (ℕ × ℕ)
  steps_in = map (λ p. (p.0, p.1)) s.steps.now

  -- one with the head's words
  abbrev head : Bool → Bool → Bool → List Field → List Fun → List (ℕ × ℕ) → List (ℕ × ℕ) → Facts
  head block has_data resc_data fields funs moves steps =
      parted tree.facts.service.bytes (parents_of tree.facts.parent.bytes) (bytes_eq tree.facts.close.bytes (codes "subtree")) (bytes_eq tree.facts.global.bytes (codes "true"))
      block has_data resc_data fields funs moves steps

  -- one with what its fields and functions tell
  abbrev rest : List Field → List Fun → List (ℕ × ℕ) → List (ℕ × ℕ) → Facts
  rest fields funs moves steps = head (list_any (λ f. f.block) funs) (nat_lt 0 (length fields)) (list_any (λ f. f.uses_file) funs) fields funs moves steps

  -- a shape that is made of what a text declares is that of the text
  pub shape_is : s.name.now ≡ tree.facts.service.bytes → s.parents ≡ parents_of tree.facts.parent.bytes → s.subtree ≡ bytes_eq tree.facts.close.bytes (codes "subtree")
      → s.global ≡ bytes_eq tree.facts.global.bytes (codes "true") → s.block ≡ list_any (λ f. f.block) (map fun_of_shape s.funs.now) → s.has_data ≡ nat_lt 0 (length (fields_in s.fields.now))
      → s.resc_data ≡ list_any (λ f. f.uses_file) (map fun_of_shape s.funs.now) → fields_in s.fields.now ≡ fields_of_text tree.statements
      → map fun_of_shape s.funs.now ≡ map (function_of tree.statements) (protos_of tree.statements)
      → s.moves.now ≡ pairs_of (codes "sm_transition") tree.statements → s.steps.now ≡ pairs_of (codes "sm_recover") tree.statements
      → facts_of s ≡ shape_of_text tree
  unfolding shape_of_text
  shape_is name parents subtree global block has_data resc_data fields funs moves steps =
      ap (λ x. parted x s.parents s.subtree s.global s.block s.has_data s.resc_data (fields_in s.fields.now) funs_in moves_in steps_in) name
      ∙ ap (λ x. parted tree.facts.service.bytes x s.subtree s.global s.block s.has_data s.resc_data (fields_in s.fields.now) funs_in moves_in steps_in) parents
      ∙ ap (λ x. parted tree.facts.service.bytes (parents_of tree.facts.parent.bytes) x s.global s.block s.has_data s.resc_data (fields_in s.fields.now) funs_in moves_in steps_in) subtree
      ∙ ap (λ x. parted tree.facts.service.bytes (parents_of tree.facts.parent.bytes) (bytes_eq tree.facts.close.bytes (codes "subtree")) x s.block s.has_data s.resc_data (fields_in s.fields.now) funs_in moves_in steps_in) global
      ∙ ap (λ x. head x s.has_data s.resc_data (fields_in s.fields.now) funs_in moves_in steps_in) block
      ∙ ap (λ x. head (list_any (λ f. f.block) funs_in) x s.resc_data (fields_in s.fields.now) funs_in moves_in steps_in) has_data
      ∙ ap (λ x. head (list_any (λ f. f.block) funs_in) (nat_lt 0 (length (fields_in s.fields.now))) x (fields_in s.fields.now) funs_in moves_in steps_in) resc_data
      ∙ ap (λ x. rest x funs_in moves_in steps_in) fields
      ∙ ap (λ x. rest (fields_of_text tree.statements) x moves_in steps_in) funs
      ∙ ap (λ x. rest (fields_of_text tree.statements) (map (function_of tree.statements) (protos_of tree.statements)) x steps_in) (same_pairs s.moves.now ∙ moves)
      ∙ ap (λ x. rest (fields_of_text tree.statements) (map (function_of tree.statements) (protos_of tree.statements)) (pairs_of (codes "sm_transition") tree.statements) x) (same_pairs s.steps.now ∙ steps)
