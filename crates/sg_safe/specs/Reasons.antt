-- Why a described service can't be recovered: the first reason, of those that there are.
use Rattle.std.specs.Prelude.{ℕ, ◌≡◌, suc, ◌-◌, ◌&&◌, Bool, false, not, if◌then◌else◌, List, [], ◌∷◌, None, Some, take}
use Rattle.std.specs.Bool.{then_some}
use Rattle.std.specs.List.{list_all}
use Rattle.std.specs.Option.{option_map, option_or}
use Rattle.std.specs.declared.option.Option.{Option}
use Rattle.sg_known.specs.sg_facts.Allowed.{is_replayed}
use Rattle.sg_known.specs.sg_facts.Counted.{is_counted}
use Rattle.sg_known.specs.sg_facts.Facts.{Fun, fun_at}
use Rattle.sg_known.specs.sg_facts.Interface.{has_pair}
use Rattle.sg_known.specs.sg_facts.Walks.{FieldMark, Spot, first_spot, good, next_spot, unknown, unset}
use Rattle.sg_known.specs.sg_walk.declared.spot.FieldState.{FieldState}
use Rattle.sg_known.specs.sg_walk.declared.spot.FieldState.TheVariants.{Unset, Good, Unknown}
use Rattle.sg_known.specs.sg_described.Described.{Described, Rule, rules_at}
use Rattle.sg_known.specs.sg_described.Known.{between, greatest, is_wait, may_stop}
use Rattle.sg_known.specs.sg_described.Meaning.{most_at}
use Rattle.sg_known.specs.sg_described.NeverZero.{all_from}
use Rattle.sg_known.specs.sg_described.Safe.{adds, counts_slowly, replays_slowly}
use Rattle.sg_known.specs.sg_described.Waiting.{leaves_waiting, waits_well}
use Rattle.sg_known.specs.sg_described.Walking.{begins_well, blank, caller_fits, effect_fits, field_known, is_lost, is_step, known_at, spots_of, walks_well}
use Rattle.sg_safe.specs.declared.reason.FailingCall.{FailingCall}
use Rattle.sg_safe.specs.declared.reason.KnownField.{KnownField}
use Rattle.sg_safe.specs.declared.reason.KnownSpot.{KnownSpot}
use Rattle.sg_safe.specs.declared.reason.Obstacle.{Obstacle}
use Rattle.sg_safe.specs.declared.reason.Obstacle.TheVariants.{ByRule, NoClient, PastMost}
use Rattle.sg_safe.specs.declared.reason.SafeError.{SafeError}
use Rattle.sg_safe.specs.declared.reason.SafeError.TheVariants.{NoMemory, Unsafe as Found}
use Rattle.sg_safe.specs.declared.reason.Unsafe.{Unsafe}
use Rattle.sg_safe.specs.declared.reason.Unsafe.TheVariants.{CountsFar, Recounts, Overtaken, Fails}

-- ---- the first of several

-- the first that there is among elements, which are numbered from a number on
abbrev pub first_from : {A B : Type 0} → (ℕ → A → Option B) → ℕ → List A → Option B
first_from p n [] = None
first_from p n (x ∷ xs) = option_or (p n x) (first_from p (suc n) xs)

-- the first that there is among elements
abbrev pub first_in : {A B : Type 0} → (A → Option B) → List A → Option B
first_in p [] = None
first_in p (x ∷ xs) = option_or (p x) (first_in p xs)

-- ---- words that count

-- a field that counts may go far
abbrev pub counts_far : Described → ℕ → ℕ → Option Unsafe
counts_far d x most = then_some (not (counts_slowly d x most)) (CountsFar x)

-- a replayed function adds to a field that counts
abbrev pub recounts : Described → ℕ → Fun → Option Unsafe
recounts d fun f = if is_replayed d.facts fun then first_in (λ e. then_some (is_counted d.facts e.0 && adds e.1) (Recounts fun e.0)) f.effects else None

-- ---- who waits

-- a client that waits by a rule may be let pass by a function
abbrev pub overtaken_by : Described → ℕ → ℕ → Rule → ℕ → Fun → Option Unsafe
overtaken_by d waiter n r fun f = then_some (not (leaves_waiting d waiter (take (n - 1) (rules_at d waiter)) r fun f)) (Overtaken waiter n fun)

-- by the first such function
abbrev pub overtaken_at : Described → ℕ → ℕ → Rule → Option Unsafe
overtaken_at d waiter n r = if is_wait r.verdict then first_from (overtaken_by d waiter n r) 1 d.facts.funs else None

-- one that waits for a function, by the first such rule
abbrev pub overtaken : Described → ℕ → Fun → Option Unsafe
overtaken d waiter f = first_from (overtaken_at d waiter) 1 (rules_at d waiter)

-- ---- replayed calls

-- the mark of the code for what is known of a field
abbrev pub shown_mark : FieldMark → FieldState
shown_mark m = elim m [ unset ↦ Unset | good ↦ Good | unknown ↦ Unknown ]

-- what is known of fields, numbered from a number on
abbrev pub known_fields : Described → Spot → ℕ → List FieldMark → List KnownField
known_fields d s x [] = []
known_fields d s x (m ∷ marks) = record { mark = shown_mark m; bounds = field_known d s x; own = between 0 (most_at (greatest d) x) } ∷ known_fields d s (suc x) marks

abbrev pub known_spot : Described → Spot → KnownSpot
known_spot d s = record { state = s.state; fields = known_fields d s 0 s.marks }

-- a field that the function sets to its caller may hold no client
abbrev pub no_client : Described → ℕ → Spot → Option Obstacle
no_client d fun s = first_in (λ e. then_some (not (caller_fits d (next_spot d.facts fun s).state e)) (NoClient e.0)) (fun_at d.facts.funs fun).effects

-- a rule may refuse or put off
abbrev pub stopping_rule : Described → ℕ → Spot → Option Obstacle
stopping_rule d fun s = first_from (λ n r. then_some (may_stop (known_at d fun s) r) (ByRule n)) 1 (rules_at d fun)

-- a field may be taken past its greatest number
abbrev pub past_most : Described → ℕ → Spot → Option Obstacle
past_most d fun s = first_in (λ e. then_some (not (effect_fits d fun s e)) (PastMost e.0)) (fun_at d.facts.funs fun).effects

-- what may make the call fail, unless it leads to where a field is lost for good
abbrev pub obstacle_at : Described → ℕ → Spot → Option Obstacle
obstacle_at d fun s = if is_lost d (next_spot d.facts fun s) then None else option_or (no_client d fun s) (option_or (stopping_rule d fun s) (past_most d fun s))

abbrev pub failing_at : Described → ℕ → Spot → Obstacle → FailingCall
failing_at d fun s obstacle = record { fun = fun; spot = known_spot d s; obstacle = obstacle }

abbrev pub fails_at : Described → ℕ → Spot → Option FailingCall
fails_at d fun s = option_map (failing_at d fun s) (obstacle_at d fun s)

-- the first call of a walk
abbrev pub fails_first : Described → ℕ → Fun → Option FailingCall
fails_first d fun f = if f.creation then fails_at d fun (blank d fun) else None

-- the next call, where walks come to
abbrev pub fails_by : Described → Spot → ℕ × ℕ → Option FailingCall
fails_by d s step = if is_step d s step then fails_at d step.1 s else None

abbrev pub fails_on : Described → Spot → Option FailingCall
fails_on d s = first_in (fails_by d s) d.facts.steps

-- ---- the first reason

-- a call may fail; its walk isn't told
abbrev pub failing : FailingCall → Unsafe
failing call = Fails [] call

-- words that count
abbrev pub counts_in : Described → Option Unsafe
counts_in d = option_or (first_from (counts_far d) 0 d.most) (first_from (recounts d) 1 d.facts.funs)

-- who waits
abbrev pub waits_in : Described → Option Unsafe
waits_in d = first_from (overtaken d) 1 d.facts.funs

-- replayed calls: first calls of walks, then those where walks come to
abbrev pub fails_in : Described → Option Unsafe
fails_in d = option_or (option_map failing (first_from (fails_first d) 1 d.facts.funs)) (option_map failing (first_in (fails_on d) (spots_of d)))

-- of the kinds in this order the first that there is
abbrev pub unsafe_in : Described → Option Unsafe
unsafe_in d = option_or (counts_in d) (option_or (waits_in d) (fails_in d))

-- ---- the walk that a reason tells

-- a walk may go on with a function: by a recover step from where it has come to, which ends no descriptor
abbrev pub goes_on : Described → Spot → ℕ → Bool
goes_on d s fun = has_pair d.facts.steps s.state fun && not (fun_at d.facts.funs fun).terminal

-- where it leads to from there; None where it is no walk
abbrev pub led_on : Described → Spot → List ℕ → Option Spot
led_on d s [] = Some s
led_on d s (fun ∷ walk) = if goes_on d s fun then led_on d (next_spot d.facts fun s) walk else None

-- where a walk leads to: it begins with a function that makes a descriptor; None where it is no walk
abbrev pub led_by : Described → List ℕ → Option Spot
led_by d [] = None
led_by d (fun ∷ walk) = if (fun_at d.facts.funs fun).creation then led_on d (first_spot d.facts fun) walk else None

-- a walk leads to where this call is the first that may fail
pub record LeadsTo (d : Described) (walk : List ℕ) (call : FailingCall) : Type 0 where
  pub spot : Spot
  pub led : led_by d walk ≡ Some spot
  pub fails : fails_on d spot ≡ Some call

-- ---- what a reason says

-- a reason without its walk
abbrev pub but_walk : Unsafe → Unsafe
but_walk (Fails walk call) = failing call
but_walk (CountsFar x) = CountsFar x
but_walk (Recounts fun x) = Recounts fun x
but_walk (Overtaken waiter n by) = Overtaken waiter n by

-- the walk that a reason tells leads to where the call may fail; before a first call there is none
abbrev pub IsTold : Described → Unsafe → Type 0
IsTold d (Fails [] call) = Unit {0}
IsTold d (Fails (fun ∷ walk) call) = LeadsTo d (fun ∷ walk) call
IsTold d _ = Unit {0}

-- what is asked of a description that is safe, and that a reason refutes
abbrev pub Refutes : Described → Unsafe → Type 0
Refutes d (CountsFar x) = all_from (counts_slowly d) 0 d.most ≡ false
Refutes d (Recounts fun x) = all_from (replays_slowly d) 1 d.facts.funs ≡ false
Refutes d (Overtaken waiter n by) = all_from (waits_well d) 1 d.facts.funs ≡ false
Refutes d (Fails [] call) = all_from (begins_well d) 1 d.facts.funs ≡ false
Refutes d (Fails (fun ∷ walk) call) = list_all (walks_well d) (spots_of d) ≡ false

-- a reason is this one but for its walk, its walk leads where it says, and it refutes that the description is safe
pub record IsReason (d : Described) (from : Option Unsafe) (reason : Unsafe) : Type 0 where
  pub same : from ≡ Some (but_walk reason)
  pub told : IsTold d reason
  pub refutes : Refutes d reason

-- an error tells the first reason, or that there is no memory
abbrev pub IsFirstError : Described → SafeError → Type 0
IsFirstError d NoMemory = Unit {0}
IsFirstError d (Found reason) = IsReason d (unsafe_in d) reason
