-- What every shape keeps to.
use Rattle.std.specs.Prelude.{ℕ, zero, suc, ◌+◌, ◌==◌, Bool, true, false, ◌&&◌, ◌||◌, not, List, [], ◌∷◌, None, Some, length, count_by, nat_le, nat_lt, slice_get}
use Rattle.std.specs.declared.option.Option.{Option}
use Rattle.std.specs.List.{list_any, list_all}
use Rattle.sg_facts.specs.declared.shape.Kind.{Kind}
use Rattle.sg_facts.specs.declared.shape.Kind.TheVariants.{Desc, Parent}
use Rattle.sg_facts.specs.declared.shape.Leaves.{Leaves}
use Rattle.sg_facts.specs.declared.shape.Leaves.TheVariants.{Own, Same, Of}
use Rattle.sg_facts.specs.declared.shape.Parents.{Parents}
use Rattle.sg_facts.specs.declared.shape.Parents.TheVariants.{Never, Same as SameClient, Cross}
use Rattle.sg_facts.specs.declared.shape.Effect.{Effect}
use Rattle.sg_facts.specs.declared.shape.Effect.TheVariants.{SetCaller, SetArg, AddArg, Clear}
use Rattle.sg_facts.specs.Facts.{Facts, Field, Fun, fun_at, takes_desc, takes_parent, writes}
use Rattle.sg_facts.specs.Counted.{takes_word}
use Rattle.sg_facts.specs.Walks.{carries_arg, sets_caller}

-- whether no descriptor has a parent
abbrev pub is_never : Parents → Bool
is_never Never = true
is_never SameClient = false
is_never Cross = false

-- whether the parent of a descriptor may be one of any client
abbrev pub is_cross : Parents → Bool
is_cross Cross = true
is_cross Never = false
is_cross SameClient = false

-- one test implies another
abbrev pub implies : Bool → Bool → Bool
implies a b = not a || b

-- a private service has no parents of other clients, and no function that looks at all rows
abbrev pub keeps_private : Facts → Bool
keeps_private facts = implies (not facts.global) (not (is_cross facts.parents) && list_all (λ f. not f.all) facts.funs)

-- whether a field is a text; no field is none
abbrev pub text_in : Option Field → Bool
text_in None = false
text_in (Some f) = f.text

-- whether the field of a number is a text
abbrev pub is_text_field : List Field → ℕ → Bool
is_text_field fields x = text_in (slice_get fields x)

-- whether a function leaves its own state
abbrev pub is_own_state : Leaves → Bool
is_own_state Own = true
is_own_state _ = false

-- the function whose state another leaves leaves its own
abbrev pub leaves_own : List Fun → Leaves → Bool
leaves_own funs Own = true
leaves_own funs Same = true
leaves_own funs (Of other) = is_own_state (fun_at funs other).leaves

-- the number of arguments beside descriptor and parent
abbrev pub count_args : List Kind → ℕ
count_args [] = 0
count_args (Desc ∷ kinds) = count_args kinds
count_args (Parent ∷ kinds) = count_args kinds
count_args (_ ∷ kinds) = 1 + count_args kinds

-- each of so many arguments goes into one field
abbrev pub each_arg : List (ℕ × Effect) → ℕ → Bool
each_arg effects zero = true
each_arg effects (suc k) = (count_by (λ e. carries_arg k e.1) effects == 1) && each_arg effects k

-- effects change no field twice
abbrev pub sets_once : List (ℕ × Effect) → Bool
sets_once [] = true
sets_once (e ∷ es) = not (list_any (λ other. other.0 == e.0) es) && sets_once es

-- a function keeps to this: a query takes neither descriptor nor parent; one that uses a file has a descriptor, in a
-- service with files; only a creation sets a text; none changes a field twice; one that may block neither makes nor ends a
-- descriptor
abbrev pub keeps_to : Facts → Fun → Bool
keeps_to facts f =
    implies f.query (not (takes_desc f) && not (takes_parent f))
    && implies f.uses_file (facts.resc_data && takes_desc f)
    && (f.creation || list_all (λ e. not (is_text_field facts.fields e.0)) f.effects)
    && sets_once f.effects
    && implies f.block (not f.creation && not f.terminal)
    && leaves_own facts.funs f.leaves

-- a function is replayed: it makes a descriptor, or is a recover step
abbrev pub is_replayed : Facts → ℕ → Bool
is_replayed facts fun = (fun_at facts.funs fun).creation || list_any (λ s. s.1 == fun) facts.steps

-- the replayed functions among so many carry each argument into one field
abbrev pub replays_all : Facts → ℕ → Bool
replays_all facts zero = true
replays_all facts (suc n) =
    implies (is_replayed facts (suc n)) (each_arg (fun_at facts.funs (suc n)).effects (count_args (fun_at facts.funs (suc n)).kinds))
    && replays_all facts n

-- a function that makes a descriptor is no query, ends none, and is called on none; one that neither makes one nor asks is
-- called on one, and takes no parent; none takes a parent where descriptors have none
abbrev pub acts_on_one : Facts → Fun → Bool
acts_on_one facts f =
    implies f.creation (not f.query && not f.terminal && not (takes_desc f))
    && (f.creation || f.query || (takes_desc f && not (takes_parent f)))
    && implies (is_never facts.parents) (not (takes_parent f))

-- an argument that an effect takes is one of so many
abbrev pub takes_among : ℕ → Effect → Bool
takes_among most (SetArg k) = nat_lt k most
takes_among most (AddArg k) = nat_lt k most
takes_among most _ = true

-- an effect leaves what the row tells, or nothing
abbrev pub leaves_known : Effect → Bool
leaves_known SetCaller = true
leaves_known (SetArg k) = true
leaves_known Clear = true
leaves_known _ = false

-- no row has a parent
abbrev pub has_no_parents : Facts → Bool
has_no_parents facts = list_all (λ f. not (takes_parent f)) facts.funs

-- a replayed function writes no file, takes no other arguments than it has, sets one field at most to its caller, and where
-- rows have parents leaves fields that are known
abbrev pub replays_well : Facts → Fun → Bool
replays_well facts f =
    not (writes f) && list_all (λ e. takes_among (count_args f.kinds) e.1) f.effects && nat_le (count_by (λ e. sets_caller e.1) f.effects) 1
    && (has_no_parents facts || list_all (λ e. leaves_known e.1) f.effects)

-- the replayed functions among so many do
abbrev pub each_replays_well : Facts → ℕ → Bool
each_replays_well facts zero = true
each_replays_well facts (suc n) = implies (is_replayed facts (suc n)) (replays_well facts (fun_at facts.funs (suc n))) && each_replays_well facts n

-- no recover step makes a descriptor
abbrev pub steps_make_none : Facts → Bool
steps_make_none facts = list_all (λ s. not (fun_at facts.funs s.1).creation) facts.steps

-- what a shape keeps to; it has at most 8 fields
abbrev pub is_allowed : Facts → Bool
is_allowed facts =
    nat_le (length facts.fields) 8 && keeps_private facts && list_all (keeps_to facts) facts.funs && replays_all facts (length facts.funs)
    && list_all (acts_on_one facts) facts.funs && each_replays_well facts (length facts.funs) && steps_make_none facts

-- whether a function takes a returned word into a field
abbrev pub wants_word : Fun → Bool
wants_word f = list_any (λ e. takes_word e.1) f.effects
