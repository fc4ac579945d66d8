-- How a row is rebuilt: the states that rows can come to, and the walks of calls that restore them.
use Rattle.std.specs.Prelude.{ℕ, ◌≡◌, ◌+◌, ◌≤◌, ◌==◌, Bool, true, false, ◌&&◌, ◌||◌, not, nat_lt, if◌then◌else◌, List, [], ◌∷◌, None, Some, length, map, unwrap_or, slice_get, slice_set, filter}
use Rattle.std.specs.Option.{option_map_or}
use Rattle.std.specs.declared.option.Option.{Option}
use Rattle.std.specs.Cmp.Lexicographic.{pointwise}
use Rattle.std.specs.List.{enumerate_from}
use Rattle.sg_base.specs.declared.value.Value.{Value}
use Rattle.sg_base.specs.declared.value.Value.TheVariants.{Word}
use Rattle.sg_base.specs.declared.call.Call.{Call}
use Rattle.sg_facts.specs.declared.row.Row.{Row}
use Rattle.sg_facts.specs.declared.shape.Kind.{Kind}
use Rattle.sg_facts.specs.declared.shape.Effect.{Effect}
use Rattle.sg_facts.specs.declared.shape.Effect.TheVariants.{SetCaller, SetArg, AddArg, SetRet, AddRet, Clear, SubOne, SubRet}
use Rattle.sg_facts.specs.Facts.{Facts, fun_at, state_after, is_id}
use Rattle.sg_facts.specs.Interface.{Declared, declares, moves_on, steps_on}
use Rattle.sg_facts.specs.Track.{word_of, field_at}

-- ---- what rows can come to

-- the effect on the field of a number
abbrev pub effect_on : List (ℕ × Effect) → ℕ → Option Effect
effect_on [] x = None
effect_on (e ∷ es) x = if e.0 == x then Some e.1 else effect_on es x

-- whether an effect may leave a field set, or not set, that was set or not
abbrev pub may_leave : Option Effect → Bool → Bool → Bool
may_leave None old new = if old then new else not new
may_leave (Some SetCaller) old new = new
may_leave (Some (SetArg k)) old new = true
may_leave (Some (AddArg k)) old new = new || not old
may_leave (Some SetRet) old new = true
may_leave (Some AddRet) old new = new || not old
may_leave (Some Clear) old new = not new
may_leave (Some SubOne) old new = old || not new
may_leave (Some SubRet) old new = old || not new

-- whether effects may take one set of fields to another; the fields are numbered from a place on
abbrev pub may_lead : List (ℕ × Effect) → ℕ → List Bool → List Bool → Bool
may_lead effects x [] [] = true
may_lead effects x (old ∷ olds) (new ∷ news) = may_leave (effect_on effects x) old new && may_lead effects (x + 1) olds news
may_lead effects x _ _ = false

-- a descriptor that a function made can be in a state with a set of fields: made with none set, and then by effects and transitions
pub data IsReachable (i : Declared) : ℕ → ℕ → List Bool → Type 0 where
  made : (fun : ℕ) (set : List Bool) → declares i fun ≡ true → (fun_at i.facts.funs fun).creation ≡ true
      → may_lead (fun_at i.facts.funs fun).effects 0 (map (λ f. false) i.facts.fields) set ≡ true
      → IsReachable i fun (state_after i.facts fun fun) set
  moved : (by fun state : ℕ) (old new : List Bool) → IsReachable i by state old → moves_on i state fun ≡ true
      → (fun_at i.facts.funs fun).terminal ≡ false
      → may_lead (fun_at i.facts.funs fun).effects 0 old new ≡ true
      → IsReachable i by (state_after i.facts fun state) new

-- ---- how far a walk leads

-- what is known of a field when a walk has come so far: it is 0 or empty, it has the row's value, or nothing is known
pub data FieldMark : Type 0 where
  unset : FieldMark
  good : FieldMark
  unknown : FieldMark

-- a mark after an effect
abbrev pub mark_after : Effect → FieldMark → FieldMark
mark_after effect mark =
    elim effect [ SetCaller ↦ good | SetArg k ↦ good | AddArg k ↦ elim mark [ unset ↦ good | _ ↦ unknown ] | Clear ↦ unset | _ ↦ unknown ]

-- the marks after a function's effects
abbrev pub marks_after : List (ℕ × Effect) → List FieldMark → List FieldMark
marks_after [] marks = marks
marks_after (e ∷ es) marks = marks_after es (slice_set marks e.0 (mark_after e.1 (unwrap_or (slice_get marks e.0) unset)))

-- where a walk has come to: a state, and a mark for each field
pub record Spot : Type 0 where
  pub state : ℕ
  pub marks : List FieldMark

-- where a walk has come to after the creation that it begins with
abbrev pub first_spot : Facts → ℕ → Spot
first_spot facts fun = record {
  state = state_after facts fun fun;
  marks = marks_after (fun_at facts.funs fun).effects (map (λ f. unset) facts.fields);
}

-- where a walk has come to after one more function
abbrev pub next_spot : Facts → ℕ → Spot → Spot
next_spot facts fun s = record {
  state = state_after facts fun s.state;
  marks = marks_after (fun_at facts.funs fun).effects s.marks;
}

-- where the rest of a walk leads to: it goes on with declared recover steps that are neither terminal nor queries; None where it is no walk
abbrev pub spot_from : Declared → Spot → List ℕ → Option Spot
spot_from i s [] = Some s
spot_from i s (fun ∷ walk) =
    let f = fun_at i.facts.funs fun in
    let next : Spot = record { state = state_after i.facts fun s.state; marks = marks_after f.effects s.marks } in
    if declares i fun && steps_on i s.state fun && not f.terminal && not f.query then spot_from i next walk else None

-- where a walk leads to: a declared creation that is neither terminal nor a query, and recover steps from the state that it has reached
abbrev pub spot_of : Declared → List ℕ → Option Spot
spot_of i [] = None
spot_of i (fun ∷ walk) =
    let f = fun_at i.facts.funs fun in
    let first : Spot = record { state = state_after i.facts fun fun; marks = marks_after f.effects (map (λ field. unset) i.facts.fields) } in
    if declares i fun && f.creation && not f.terminal && not f.query then spot_from i first walk else None

-- ---- which walk restores a row

-- whether marks restore fields: there is a mark for each field, a field that is set has the row's value, and one that isn't is 0 or
-- empty, or has the row's value
abbrev pub restores_fields : List FieldMark → List Bool → Bool
restores_fields marks set = pointwise (λ mark b. elim mark [ good ↦ true | unset ↦ not b | unknown ↦ false ]) marks set

-- whether a walk restores a state with a set of fields
abbrev pub restores : Declared → List ℕ → ℕ → List Bool → Bool
restores i walk state set = option_map_or (λ s. (s.state == state) && restores_fields s.marks set) (spot_of i walk) false

-- the function with which a walk begins, 0 where there is none
abbrev pub begin_of : List ℕ → ℕ
begin_of [] = 0
begin_of (fun ∷ walk) = fun

-- whether a list is no later than another of its length, by their first different numbers
abbrev pub no_later : List ℕ → List ℕ → Bool
no_later [] ns = true
no_later (m ∷ ms) [] = false
no_later (m ∷ ms) (n ∷ ns) = nat_lt m n || ((m == n) && no_later ms ns)

-- the greatest number of calls of a walk
abbrev pub most_calls : ℕ
most_calls = 8

-- the walk of what a function made, in a state, with a set of fields: of at most 8 calls, the shortest that restores it,
-- and the first of these by function numbers
pub record IsWalkOf (i : Declared) (walk : List ℕ) (by state : ℕ) (set : List Bool) : Type 0 where
  pub begins : begin_of walk ≡ by
  pub restored : restores i walk state set ≡ true
  pub short : length walk ≤ most_calls
  pub least : (other : List ℕ) → begin_of other ≡ by → restores i other state set ≡ true
      → nat_lt (length walk) (length other) || ((length walk == length other) && no_later walk other) ≡ true

-- ---- replayed calls

-- whether an effect sets its field to the caller
abbrev pub sets_caller : Effect → Bool
sets_caller effect = elim effect [ SetCaller ↦ true | _ ↦ false ]

-- whether an effect sets its field to the argument of a number, from 0, or adds that argument
abbrev pub carries_arg : ℕ → Effect → Bool
carries_arg k effect = elim effect [ SetArg j ↦ j == k | AddArg j ↦ j == k | _ ↦ false ]

-- the caller of a replayed call: the field that the function sets to its caller, else the row's creator
abbrev pub replay_caller : List (ℕ × Effect) → Row → ℕ
replay_caller [] r = r.creator
replay_caller (e ∷ es) r = if elim e.1 [ SetCaller ↦ true | _ ↦ false ] then word_of (field_at r.fields e.0) else replay_caller es r

-- an argument of a replayed call: the field that the function sets to it, or adds it to
abbrev pub replay_arg : List (ℕ × Effect) → Row → ℕ → Value
replay_arg [] r k = Word 0
replay_arg (e ∷ es) r k = if elim e.1 [ SetArg j ↦ j == k | AddArg j ↦ j == k | _ ↦ false ] then field_at r.fields e.0 else replay_arg es r k

-- the arguments for kinds, numbered from a place on
abbrev pub replay_args : List (ℕ × Effect) → Row → ℕ → List Kind → List Value
replay_args effects r k kinds = map (λ p. replay_arg effects r p.0) (enumerate_from k (filter (λ kind. not (is_id kind)) kinds))

-- the call of a row's walk that has this function: with the row's present values, on its parent for the creation and on
-- its id after that. It has no number among its caller's calls
abbrev pub replayed_call : Facts → Row → Bool → ℕ → Call
replayed_call facts r is_first fun = record {
  client = replay_caller (fun_at facts.funs fun).effects r;
  seq = 0;
  fun = fun;
  desc = if is_first then r.parent else r.id;
  args = replay_args (fun_at facts.funs fun).effects r 0 (fun_at facts.funs fun).kinds;
}
