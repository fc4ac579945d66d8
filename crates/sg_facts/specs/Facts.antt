-- The facts of a service as plain data, and what they say of each function.
use Rattle.std.specs.Prelude.{ℕ, zero, suc, ◌==◌, Bool, true, false, ◌&&◌, ◌||◌, not, List, [], map, slice_get, unwrap_or}
use Rattle.std.specs.List.{list_any}
use Rattle.std.specs.Int.{bit_at}
use Rattle.sg_facts.specs.declared.shape.Shape.{Shape}
use Rattle.sg_facts.specs.declared.shape.FunShape.{FunShape}
use Rattle.sg_facts.specs.declared.shape.Parents.{Parents}
use Rattle.sg_facts.specs.declared.shape.Parents.TheVariants.{Never}
use Rattle.sg_facts.specs.declared.shape.Kind.{Kind}
use Rattle.sg_facts.specs.declared.shape.Kind.TheVariants.{Desc, Parent, Text}
use Rattle.sg_facts.specs.declared.shape.Leaves.{Leaves}
use Rattle.sg_facts.specs.declared.shape.Leaves.TheVariants.{Own, Same, Of}
use Rattle.sg_facts.specs.declared.shape.Effect.{Effect}

-- a function: its parameters after the caller, its flags, the state that it leaves, and what it does to the fields
pub record Fun : Type 0 where
  pub name : List ℕ
  pub kinds : List Kind
  pub creation : Bool
  pub terminal : Bool
  pub block : Bool
  pub wakeup : Bool
  pub query : Bool
  pub all : Bool
  pub uses_file : Bool
  pub leaves : Leaves
  pub effects : List (ℕ × Effect)

-- a field: its name, and whether it is a text
pub record Field : Type 0 where
  pub name : List ℕ
  pub text : Bool

-- the facts of a service
pub record Facts : Type 0 where
  pub name : List ℕ
  pub parents : Parents
  pub subtree : Bool
  pub global : Bool
  pub block : Bool
  pub has_data : Bool
  pub resc_data : Bool
  pub fields : List Field
  pub funs : List Fun
  pub moves : List (ℕ × ℕ)
  pub steps : List (ℕ × ℕ)

-- whether a sum of flags has the flag of a bit
abbrev pub has_flag : ℕ → ℕ → Bool
has_flag flags bit = bit_at flags bit == 1

-- the bits of a function's flags: it makes a descriptor; it ends its own; it may block; its Ok wakes who is blocked on its descriptor;
-- it changes no descriptor; it looks at all live rows; it reads or writes the file of its descriptor

-- the bit of the flag of a function that makes a descriptor
abbrev pub creation_bit : ℕ
creation_bit = 0

-- the bit of the flag of a function that ends its descriptor
abbrev pub terminal_bit : ℕ
terminal_bit = 1

-- the bit of the flag of a function that may block
abbrev pub block_bit : ℕ
block_bit = 2

-- the bit of the flag of a function whose Ok wakes who is blocked on its descriptor
abbrev pub wakeup_bit : ℕ
wakeup_bit = 3

-- the bit of the flag of a function that changes no descriptor
abbrev pub query_bit : ℕ
query_bit = 4

-- the bit of the flag of a function that looks at all live rows
abbrev pub all_bit : ℕ
all_bit = 5

-- the bit of the flag of a function that reads or writes the file of its descriptor
abbrev pub uses_file_bit : ℕ
uses_file_bit = 6

-- a function of a shape, as plain data
abbrev pub fun_of_shape : FunShape → Fun
fun_of_shape f = record {
  name = f.name.now;
  kinds = f.kinds.now;
  creation = has_flag f.flags creation_bit;
  terminal = has_flag f.flags terminal_bit;
  block = has_flag f.flags block_bit;
  wakeup = has_flag f.flags wakeup_bit;
  query = has_flag f.flags query_bit;
  all = has_flag f.flags all_bit;
  uses_file = has_flag f.flags uses_file_bit;
  leaves = f.leaves;
  effects = map (λ p. (p.0, p.1)) f.effects.now;
}

-- a shape, as plain data
abbrev pub facts_of : Shape → Facts
facts_of s = record {
  name = s.name.now;
  parents = s.parents;
  subtree = s.subtree;
  global = s.global;
  block = s.block;
  has_data = s.has_data;
  resc_data = s.resc_data;
  fields = map (λ f. record { name = f.name.now; text = f.text }) s.fields.now;
  funs = map fun_of_shape s.funs.now;
  moves = map (λ p. (p.0, p.1)) s.moves.now;
  steps = map (λ p. (p.0, p.1)) s.steps.now;
}

-- a function without parameters and effects, which stands where a number names none
abbrev pub no_fun : Fun
no_fun = record {
  name = [];
  kinds = [];
  creation = false;
  terminal = false;
  block = false;
  wakeup = false;
  query = false;
  all = false;
  uses_file = false;
  leaves = Own;
  effects = [];
}

-- a service without functions: a global one, which blocks nobody, and whose descriptors have neither parents nor fields nor files
abbrev pub no_facts : Facts
no_facts = record {
  name = [];
  parents = Never;
  subtree = false;
  global = true;
  block = false;
  has_data = false;
  resc_data = false;
  fields = [];
  funs = [];
  moves = [];
  steps = [];
}

-- the function of a number, from 1
abbrev pub fun_at : List Fun → ℕ → Fun
fun_at funs zero = no_fun
fun_at funs (suc n) = unwrap_or (slice_get funs n) no_fun

-- whether a kind is of the descriptor or the parent, and so of no argument
abbrev pub is_id : Kind → Bool
is_id kind = elim kind [ Desc ↦ true | Parent ↦ true | _ ↦ false ]

-- whether a function is called on a descriptor
abbrev pub takes_desc : Fun → Bool
takes_desc f = list_any (λ kind. elim kind [ Desc ↦ true | _ ↦ false ]) f.kinds

-- whether a function takes a parent
abbrev pub takes_parent : Fun → Bool
takes_parent f = list_any (λ kind. elim kind [ Parent ↦ true | _ ↦ false ]) f.kinds

-- whether a parameter is a text
abbrev pub is_text_kind : Kind → Bool
is_text_kind kind = elim kind [ Text ↦ true | _ ↦ false ]

-- whether a function writes the file of its descriptor: it uses the file, and takes a text
abbrev pub writes : Fun → Bool
writes f = f.uses_file && list_any is_text_kind f.kinds

-- whether an Ok of the function shows its bytes where it is printed: the function uses the file of its descriptor and takes no text
abbrev pub shows_bytes : Fun → Bool
shows_bytes f = f.uses_file && not (list_any (λ kind. elim kind [ Text ↦ true | _ ↦ false ]) f.kinds)

-- the state of a row after a function of a service that was called in a state
abbrev pub state_after : Facts → ℕ → ℕ → ℕ
state_after facts fun state = elim (fun_at facts.funs fun).leaves [ Own ↦ fun | Same ↦ state | Of other ↦ other ]

-- whether a call of the function is visible to other clients before it returns
abbrev pub is_visible : Facts → ℕ → Bool
is_visible facts fun = facts.global || (fun_at facts.funs fun).uses_file || (fun_at facts.funs fun).creation
