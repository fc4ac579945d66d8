-- The text of tables.
use Rattle.std.specs.Prelude.{ℕ, zero, suc, ◌+◌, ◌/◌, ◌%◌, ◌==◌, Bool, if◌then◌else◌, List, [], ◌∷◌, ◌++◌, codes}
use Rattle.std.specs.Fmt.{decimal}
use Rattle.std.specs.List.{concat, flat_map, range_with_len}
use Rattle.sg_facts.specs.declared.shape.Effect.{Effect}
use Rattle.sg_facts.specs.declared.shape.Effect.TheVariants.{SetCaller, SetArg, AddArg, SetRet, AddRet, Clear, SubOne, SubRet}
use Rattle.sg_facts.specs.declared.shape.Kind.{Kind}
use Rattle.sg_facts.specs.declared.shape.Kind.TheVariants.{Desc, Parent, Word, Text}
use Rattle.sg_facts.specs.declared.shape.Leaves.TheVariants.{Own, Same, Of}
use Rattle.sg_facts.specs.declared.tables.WalkLine.{WalkLine}
use Rattle.sg_facts.specs.Facts.{Facts, Field, Fun, fun_at}
use Rattle.sg_facts.specs.Interface.{Declared, declares, has_pair}
use Rattle.sg_facts.specs.Tables.{Compiled}
use Rattle.sg_facts.specs.Words.{parents_word, close_word, flag_word, field_name, line_end}
use Rattle.sg_parse.specs.Grammar.Sentence.{recovery_word}

-- ---- facts

-- the line of the service, and the line of its facts up to the last of them
unfoldable pub service_lines : Facts → List ℕ
service_lines f = concat (
    codes "service " ∷ f.name ∷ line_end
    ∷ codes "facts parent=" ∷ parents_word f.parents ∷ codes " close=" ∷ close_word f.subtree
    ∷ codes " global=" ∷ flag_word f.global ∷ codes " block=" ∷ flag_word f.block ∷ codes " desc_data=" ∷ flag_word f.has_data
    ∷ codes " resc_data=" ∷ flag_word f.resc_data ∷ [])

-- the lines of the service and of its facts, with when descriptors are rebuilt, which an interface of a version after the first says
abbrev pub facts_lines : Declared → List ℕ
facts_lines i = concat (service_lines i.facts ∷ (if i.version == 1 then [] else codes " recover=" ++ recovery_word i.eager) ∷ line_end ∷ [])

-- ---- functions

-- the number, among the parameters after the caller and from one on, of the argument that counts from 0 without descriptor
-- and parent
abbrev pub param_number : ℕ → List Kind → ℕ → ℕ
param_number at [] k = at
param_number at (Desc ∷ kinds) k = param_number (at + 1) kinds k
param_number at (Parent ∷ kinds) k = param_number (at + 1) kinds k
param_number at (Word ∷ kinds) zero = at
param_number at (Word ∷ kinds) (suc k) = param_number (at + 1) kinds k
param_number at (Text ∷ kinds) zero = at
param_number at (Text ∷ kinds) (suc k) = param_number (at + 1) kinds k

-- what is done to a field by a function whose parameters are of these kinds
abbrev pub effect_word : List Kind → Effect → List ℕ
effect_word kinds SetCaller = codes "=caller"
effect_word kinds SetRet = codes "=ret"
effect_word kinds AddRet = codes "+ret"
effect_word kinds Clear = codes "=0"
effect_word kinds SubOne = codes "-1"
effect_word kinds SubRet = codes "-ret"
effect_word kinds (SetArg k) = codes "=arg" ++ decimal (param_number 1 kinds k)
effect_word kinds (AddArg k) = codes "+arg" ++ decimal (param_number 1 kinds k)

-- the words of the flags that a function has, each after a space
unfoldable pub flag_pieces : Fun → List ℕ
flag_pieces f =
    let flag : Bool → List ℕ → List ℕ = λ has word. if has then codes " " ++ word else [] in
    concat (
    flag f.creation (codes "creation") ∷ flag f.terminal (codes "terminal") ∷ flag f.block (codes "block") ∷ flag f.wakeup (codes "wakeup")
    ∷ flag f.query (codes "query") ∷ flag f.all (codes "all") ∷ flag f.uses_file (codes "data") ∷ [])

-- a terminal function leaves none, since it ends its descriptor, and a query changes none
unfoldable pub state_word : List Fun → Fun → List ℕ
state_word funs f = if f.terminal then codes "end" else (if f.query then codes "none" else elim f.leaves [ Own ↦ f.name | Same ↦ codes "same" | Of other ↦ (fun_at funs other).name ])

-- what a parameter is
abbrev pub kind_word : Kind → List ℕ
kind_word kind = elim kind [ Desc ↦ codes "desc" | Parent ↦ codes "parent" | Word ↦ codes "word" | Text ↦ codes "text" ]

-- the line of a function with its number: what it is called with, its flags, the state that it leaves, and what it does to fields
abbrev pub fun_line : Facts → ℕ → Fun → List ℕ
fun_line facts n f =
    concat (codes "fun " ∷ decimal n ∷ codes " " ∷ f.name ∷ flat_map (λ kind. codes " " ++ kind_word kind) f.kinds ∷ flag_pieces f ∷ [])
    ++ concat (codes " -> " ∷ state_word facts.funs f ∷ flat_map (λ e. concat (codes " " ∷ field_name facts.fields e.0 ∷ effect_word f.kinds e.1 ∷ [])) f.effects ∷ line_end ∷ [])

-- ---- all lines

-- the numbers that functions can have
unfoldable pub numbers : List ℕ
numbers = range_with_len 1 32

-- the lines of the functions that are declared
abbrev pub fun_lines : Declared → List ℕ
fun_lines i = flat_map (λ n. if declares i n then fun_line i.facts n (fun_at i.facts.funs n) else []) numbers

-- the lines of all listed pairs of functions after a word, by the first and then by the second number
abbrev pub pair_lines : List ℕ → List Fun → List (ℕ × ℕ) → List ℕ
pair_lines word funs pairs = flat_map (λ a. flat_map (λ b.
    if has_pair pairs a b then concat (word ∷ codes " " ∷ (fun_at funs a).name ∷ codes " " ∷ (fun_at funs b).name ∷ line_end ∷ []) else [])
    numbers) numbers

-- the names of the fields of a set, by its number
abbrev pub set_names : List Field → ℕ → List (List ℕ)
set_names [] mask = []
set_names (f ∷ fields) mask = if mask % 2 == 1 then f.name ∷ set_names fields (mask / 2) else set_names fields (mask / 2)

-- the names joined by commas, or a dash for the empty set
abbrev pub set_word : List (List ℕ) → List ℕ
set_word [] = codes "-"
set_word (name ∷ names) = name ++ flat_map (λ n. codes "," ++ n) names

-- the names of functions, each after a space
abbrev pub walk_names : List Fun → List ℕ → List ℕ
walk_names funs walk = flat_map (λ n. codes " " ++ (fun_at funs n).name) walk

-- the line of a walk
abbrev pub walk_line : Facts → WalkLine → List ℕ
walk_line facts line = concat (
    codes "walk " ∷ (fun_at facts.funs line.made).name ∷ codes " " ∷ (fun_at facts.funs line.state).name
    ∷ codes " " ∷ set_word (set_names facts.fields line.mask)
    ∷ codes " :" ∷ walk_names facts.funs line.walk ∷ line_end ∷ [])

-- the text of tables: the facts; the declared functions; the transitions, and the recover steps; the walks in their order
abbrev pub tables_text : Compiled → List ℕ
tables_text t = concat (
    facts_lines t.iface ∷ fun_lines t.iface ∷ pair_lines (codes "move") t.iface.facts.funs t.iface.moves
    ∷ pair_lines (codes "step") t.iface.facts.funs t.iface.steps ∷ flat_map (walk_line t.iface.facts) t.walks ∷ [])
