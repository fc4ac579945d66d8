-- What the statements of a text say of functions, by their names.
use Rattle.std.specs.Prelude.{ℕ, ◌+◌, Bool, false, ◌&&◌, ◌||◌, not, if◌then◌else◌, List, [], ◌∷◌, None, Some, codes, find}
use Rattle.std.specs.declared.option.Option.{Option}
use Rattle.std.specs.List.{list_any}
use Rattle.std.specs.Str.{bytes_eq}
use Rattle.sg_facts.specs.Facts.{Facts, Fun}
use Rattle.sg_parse.specs.declared.tree.Statement.{Statement}
use Rattle.sg_parse.specs.declared.tree.Statement.TheVariants.{One, Two, Proto}

-- whether some statement is a prototype of a function
abbrev pub has_proto : List Statement → List ℕ → Bool
has_proto statements f = list_any (λ (s : Statement). elim s [ Proto ret name params ↦ bytes_eq name.bytes f | _ ↦ false ]) statements

-- whether some statement says a word of a function
abbrev pub says : List Statement → List ℕ → List ℕ → Bool
says statements w f =
    list_any (λ (s : Statement). elim s [ One word fun ↦ bytes_eq word.bytes w && bytes_eq fun.bytes f | _ ↦ false ]) statements

-- whether some statement says a word of a function and another name
abbrev pub says_of : List Statement → List ℕ → List ℕ → List ℕ → Bool
says_of statements w f g =
    list_any (λ (s : Statement). elim s [ Two word first second ↦ bytes_eq word.bytes w && bytes_eq first.bytes f && bytes_eq second.bytes g | _ ↦ false ]) statements

-- the number, from one on, of the first function with a name
abbrev pub fun_number_from : ℕ → List Fun → List ℕ → Option ℕ
fun_number_from n [] name = None
fun_number_from n (f ∷ funs) name = if bytes_eq f.name name then Some n else fun_number_from (n + 1) funs name

-- the number of the function of a name
abbrev pub fun_number : List Fun → List ℕ → Option ℕ
fun_number funs name = fun_number_from 1 funs name

-- the service of a name
abbrev pub service_of : List Facts → List ℕ → Option Facts
service_of services name = find (λ s. bytes_eq s.name name) services

-- the second name that a statement says is a function's, too
abbrev pub names_two : List ℕ → Bool
names_two word = bytes_eq word (codes "sm_state") || bytes_eq word (codes "sm_transition") || bytes_eq word (codes "sm_recover")

-- whether two tests are the same
abbrev pub agree : Bool → Bool → Bool
agree a b = if a then b else not b
