-- Walks of a described service go on.
use Rattle.std.specs.Prelude.{ℕ, zero, suc, ◌+◌, ◌==◌, ◌&&◌, ◌||◌, Bool, true, false, not, nat_le, if◌then◌else◌, List, [], ◌∷◌, ◌++◌, None, Some, map, filter, slice_get, unwrap_or, length}
use Rattle.std.specs.List.{flat_map, list_all, list_any}
use Rattle.std.specs.declared.option.Option.{Option}
use Rattle.sg_facts.specs.declared.shape.Effect.{Effect}
use Rattle.sg_facts.specs.declared.shape.Effect.TheVariants.{SetCaller, SetArg, AddArg, SetRet, AddRet, Clear, SubOne, SubRet}
use Rattle.sg_facts.specs.Allowed.{implies}
use Rattle.sg_facts.specs.Facts.{Fun, fun_at}
use Rattle.sg_facts.specs.Limits.{last_client}
use Rattle.sg_facts.specs.Walks.{FieldMark, Spot, carries_arg, first_spot, good, next_spot, sets_caller, unknown, unset}
use Rattle.sg_described.specs.declared.bounds.Bounds.{Bounds}
use Rattle.sg_described.specs.Described.{Described, rules_at}
use Rattle.sg_described.specs.Known.{Known, between, greatest, may_stop, word_most}
use Rattle.sg_described.specs.Meaning.{last_word, most_at}
use Rattle.sg_described.specs.NeverZero.{all_from, is_never_zero}

-- ---- spots

abbrev pub same_mark : FieldMark → FieldMark → Bool
same_mark m n = elim m [ unset ↦ elim n [ unset ↦ true | _ ↦ false ] | good ↦ elim n [ good ↦ true | _ ↦ false ] | unknown ↦ elim n [ unknown ↦ true | _ ↦ false ] ]

abbrev pub same_marks : List FieldMark → List FieldMark → Bool
same_marks [] [] = true
same_marks (m ∷ ms) (n ∷ ns) = same_mark m n && same_marks ms ns
same_marks _ _ = false

abbrev pub same_spot : Spot → Spot → Bool
same_spot s t = (s.state == t.state) && same_marks s.marks t.marks

abbrev pub mark_at : List FieldMark → ℕ → FieldMark
mark_at marks x = unwrap_or (slice_get marks x) unset

-- a replayed call sets a field of which nothing was known
abbrev pub brings_back : Effect → Bool
brings_back SetCaller = true
brings_back (SetArg k) = true
brings_back Clear = true
brings_back _ = false

-- no recover step sets a field of which nothing was known
abbrev pub is_stuck : Described → ℕ → Bool
is_stuck d x = list_all (λ s. not (list_any (λ e. (e.0 == x) && brings_back e.1) (fun_at d.facts.funs s.1).effects)) d.facts.steps

abbrev pub is_unknown : FieldMark → Bool
is_unknown m = elim m [ unknown ↦ true | _ ↦ false ]

-- a field is lost for good: a walk that comes here restores no row
abbrev pub is_lost : Described → Spot → Bool
is_lost d s = not (all_from (λ x m. not (is_unknown m && is_stuck d x)) 0 s.marks)

-- ---- where walks come to

-- where the first calls of walks lead to, but where a field is lost for good
abbrev pub begins : Described → ℕ → List Fun → List Spot
begins d fun [] = []
begins d fun (f ∷ funs) = if f.creation && not (is_lost d (first_spot d.facts fun)) then first_spot d.facts fun ∷ begins d (suc fun) funs else begins d (suc fun) funs

-- whether a pair is a recover step from a spot
abbrev pub is_step : Described → Spot → ℕ × ℕ → Bool
is_step d s p = (p.0 == s.state) && not (fun_at d.facts.funs p.1).terminal

-- where the next calls lead to from a spot, likewise
abbrev pub nexts : Described → Spot → List Spot
nexts d s = filter (λ t. not (is_lost d t)) (map (λ p. next_spot d.facts p.1 s) (filter (is_step d s) d.facts.steps))

-- spots with more, each once
abbrev pub add_spot : List Spot → Spot → List Spot
add_spot spots s = if list_any (same_spot s) spots then spots else spots ++ s ∷ []

abbrev pub add_spots : List Spot → List Spot → List Spot
add_spots spots [] = spots
add_spots spots (s ∷ more) = add_spots (add_spot spots s) more

-- where walks of one call lead to, and of so many more at the most
abbrev pub spots_within : Described → ℕ → List Spot
spots_within d zero = add_spots [] (begins d 1 d.facts.funs)
spots_within d (suc n) = add_spots (spots_within d n) (flat_map (nexts d) (spots_within d n))

-- a walk goes on at most from where its seventh call led to: its first, and so many more
abbrev pub most_more : ℕ
most_more = 6

abbrev pub spots_of : Described → List Spot
spots_of d = spots_within d most_more

-- ---- what is known at a spot

-- where a walk stands before its first call
abbrev pub blank : Described → ℕ → Spot
blank d fun = record { state = fun; marks = map (λ f. unset) d.facts.fields }

-- a field that is restored isn't 0 where it never is
abbrev pub bounds_at : FieldMark → Bool → ℕ → Bounds
bounds_at m some most = elim m [ unset ↦ between 0 0 | good ↦ between (if some then 1 else 0) most | unknown ↦ between 0 last_word ]

abbrev pub field_known : Described → Spot → ℕ → Bounds
field_known d s x = bounds_at (mark_at s.marks x) (is_never_zero d.facts s.state x) (most_at (greatest d) x)

-- the field that carries an argument
abbrev pub carrier : List (ℕ × Effect) → ℕ → Option ℕ
carrier [] k = None
carrier (e ∷ es) k = if carries_arg k e.1 then Some e.0 else carrier es k

-- an argument that a field carries, or none
abbrev pub carried_known : Described → Option ℕ → Bounds
carried_known d None = between 0 0
carried_known d (Some x) = between 0 (most_at (greatest d) x)

abbrev pub arg_known : Described → ℕ → ℕ → Bounds
arg_known d fun k = carried_known d (carrier (fun_at d.facts.funs fun).effects k)

-- of the replayed call of a function
abbrev pub known_at : Described → ℕ → Spot → Known
known_at d fun s = record { args = arg_known d fun; state = between s.state s.state; fields = field_known d s }

-- ---- replayed calls

-- the greatest number that an effect may leave, by those of the field before, of the row's field, and of the returned word
abbrev pub left_most : Effect → ℕ → ℕ → ℕ → ℕ
left_most SetCaller old own word = own
left_most (SetArg k) old own word = own
left_most (AddArg k) old own word = old + own
left_most SetRet old own word = word
left_most AddRet old own word = old + word
left_most Clear old own word = 0
left_most SubOne old own word = old
left_most SubRet old own word = old

-- an effect of a replayed call leaves its field up to its greatest
abbrev pub effect_fits : Described → ℕ → Spot → ℕ × Effect → Bool
effect_fits d fun s e =
    nat_le (left_most e.1 (field_known d s e.0).most (most_at (greatest d) e.0) (word_most (known_at d fun s) (rules_at d fun))) (most_at d.most e.0)

-- the caller of a replayed call is a client: the field that the function sets to it is never 0 in the state that it leaves, and up to the last client
abbrev pub caller_fits : Described → ℕ → ℕ × Effect → Bool
caller_fits d state e = implies (sets_caller e.1) (is_never_zero d.facts state e.0 && nat_le (most_at (greatest d) e.0) last_client)

-- a replayed call is answered Ok, or leads to where a field is lost for good
abbrev pub replays_well : Described → ℕ → Spot → Bool
replays_well d fun s =
    is_lost d (next_spot d.facts fun s)
    || (list_all (caller_fits d (next_spot d.facts fun s).state) (fun_at d.facts.funs fun).effects && list_all (λ r. not (may_stop (known_at d fun s) r)) (rules_at d fun)
    && list_all (effect_fits d fun s) (fun_at d.facts.funs fun).effects)

abbrev pub begins_well : Described → ℕ → Fun → Bool
begins_well d fun f = implies f.creation (replays_well d fun (blank d fun))

abbrev pub steps_well : Described → Spot → ℕ × ℕ → Bool
steps_well d s step = implies (is_step d s step) (replays_well d step.1 s)

abbrev pub walks_well : Described → Spot → Bool
walks_well d s = list_all (steps_well d s) d.facts.steps
