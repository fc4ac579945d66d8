-- The laws of a service, each by its name. They speak of the interface that declares all of the service: a call that a
-- narrower interface lets pass passes there too.
use Rattle.std.specs.Prelude.{ℕ, ◌≡◌, ◌+◌, ◌-◌, ◌^◌, ◌<◌, ◌≤◌, ◌==◌, Bool, true, false, ◌&&◌, not, if◌then◌else◌, max, List, [], ◌∷◌, ◌++◌, None, Some, length}
use Rattle.std.specs.declared.option.Option.{Option}
use Rattle.std.specs.Option.{option_map_or}
use Rattle.sg_base.specs.declared.call.Call.{Call}
use Rattle.sg_base.specs.declared.reply.Code.{Code}
use Rattle.sg_base.specs.declared.reply.Good.{Good}
use Rattle.sg_base.specs.declared.reply.Reply.TheVariants.{Ok, Refused}
use Rattle.sg_facts.specs.Facts.{Facts, fun_at}
use Rattle.sg_facts.specs.Interface.{Declared}
use Rattle.sg_facts.specs.Limits.{end_of_counts}
use Rattle.sg_facts.specs.Object.{Object, empty_object, after}
use Rattle.sg_facts.specs.Guard.{guard, is_guards}
use Rattle.sg_facts.specs.Legal.{Table}
use Rattle.sg_facts.specs.declared.row.Row.{Row}
use Rattle.sg_facts.specs.declared.shape.Effect.{Effect}
use Rattle.sg_facts.specs.declared.shape.Effect.TheVariants.{SetArg}
use Rattle.sg_facts.specs.Track.{row_at, ends_with, word_of, arg_at}
use Rattle.sg_facts.specs.Kinds.{AreWords, IsCall, IsWithin, MayAsk}
use Rattle.sg_facts.specs.Fits.{Fits}
use Rattle.sg_facts.specs.Held.{HoldsPart, IsAt, AreReachable, ParentIsWhole, set_of}
use Rattle.sg_facts.specs.Walks.{IsWalkOf, replayed_call}
use Rattle.sg_facts.specs.Counted.{CountedBelow, most_counted, is_counted}
use Rattle.sg_facts.specs.Alike.{Serves, SameReply, under_names}
use Rattle.sg_facts.specs.Allowed.{implies, is_allowed, is_replayed, wants_word}
use Rattle.sg_facts.specs.Sound.{IsSound}

-- the interface that declares all of a service
abbrev pub whole : Facts → Declared
whole facts = record { facts = facts; declared = 2 ^ length facts.funs - 1; version = 1; eager = false; moves = facts.moves; steps = facts.steps }

-- a call of a client that passes the guard at an object
pub record Passes (facts : Facts) (o : Object) (call : Call) : Type 0 where
  pub is_call : IsCall facts call
  pub words : AreWords call.args
  pub within : IsWithin facts o call
  pub guarded : guard (whole facts) o call ≡ None

-- ---- it answers, and keeps what it holds sound

-- the empty object is sound; a sound object is one of the service's rows and files; an Ok keeps an object sound, and one
-- of a creation has the next id
pub record AnswersAndKeeps (facts : Facts) (ask : Table) (sound : Object → Type 0) : Type 0 where
  pub empty : sound empty_object
  pub general : (o : Object) → sound o → IsSound facts o
  pub keeps : (o : Object) (call : Call) (good : Good) → sound o → Passes facts o call → ask o call ≡ Some (Ok good)
      → sound (after facts o call (Ok good))
  pub next : (o : Object) (call : Call) (good : Good) → ask o call ≡ Some (Ok good) → (fun_at facts.funs call.fun).creation ≡ true → good.desc ≡ o.given + 1

-- ---- it answers alike

-- a call that passes the guard at a sound object gets the same answer, under the service's names, from whatever serves
-- it there: more rows, or fewer, or under other ids, make no difference
pub record AnswersAlike (facts : Facts) (ask : Table) (sound : Object → Type 0) : Type 0 where
  pub alike : (names : List (ℕ × ℕ)) (o held : Object) (call : Call) → sound o → Passes facts o call → Serves facts names o held call
      → SameReply names (fun_at facts.funs call.fun).creation (ask o call) (ask held (under_names names call))

-- ---- a walk goes on

-- whether a list of functions is empty: no call of a walk is done
abbrev pub is_none : List ℕ → Bool
is_none [] = true
is_none (n ∷ ns) = false

-- the next replayed call of a row, under the service's ids
abbrev pub next_call : Facts → List (ℕ × ℕ) → Row → List ℕ → ℕ → Call
next_call facts names r done fun = under_names names (replayed_call facts r (is_none done) fun)

-- the names after it: a creation gives the row its name
abbrev pub names_after : List (ℕ × ℕ) → Row → List ℕ → Good → List (ℕ × ℕ)
names_after names r done good = if is_none done then (r.id, good.desc) ∷ names else names

-- the next replayed call is a client's, fits its function, is answered Ok, and brings the row one step on
pub record GoesOn (i : Declared) (ask : Table) (names : List (ℕ × ℕ)) (o held : Object) (r : Row) (done : List ℕ) (fun : ℕ) : Type 0 where
  pub may_ask : MayAsk i.facts held (next_call i.facts names r done fun)
  pub good : Good
  pub answered : ask held (next_call i.facts names r done fun) ≡ Some (Ok good)
  pub holds : HoldsPart i (names_after names r done good) o (after i.facts held (next_call i.facts names r done fun) (Ok good))
  pub further : IsAt i (names_after names r done good) (after i.facts held (next_call i.facts names r done fun) (Ok good)) r (done ++ fun ∷ [])

-- in every interface that fits: where a service holds rows of a sound object, each whole or as far as its walk has gone,
-- the next call of the walk of a row whose parent is whole goes on
pub record WalkGoesOn (facts : Facts) (ask : Table) (sound : Object → Type 0) : Type 0 where
  pub goes_on : (i : Declared) (names : List (ℕ × ℕ)) (o held : Object) (r : Row) (done rest : List ℕ) (fun : ℕ)
      → i.facts ≡ facts → Fits i → sound o → AreReachable i o.rows → HoldsPart i names o held → CountedBelow end_of_counts facts held.rows → held.given < end_of_counts
      → row_at o.rows r.id ≡ Some r → IsWalkOf i (done ++ fun ∷ rest) r.made r.state (set_of r) → IsAt i names held r done
      → ParentIsWhole names o held r → GoesOn i ask names o held r done fun

-- ---- who is blocked stays blocked

-- the state of the row of an id, 0 where there is none
abbrev pub state_in : Option Row → ℕ
state_in row = option_map_or (λ r. r.state) row 0

-- a call leaves another blocked, as far as its flags tell: it is no wake-up on the other's descriptor, and doesn't end it
abbrev pub leaves_blocked : Facts → Object → Call → Call → Bool
leaves_blocked facts o call other =
    implies (fun_at facts.funs call.fun).wakeup (not (call.desc == other.desc))
    && implies (fun_at facts.funs call.fun).terminal (not (ends_with facts o.rows call.desc other.desc))

-- a call that would block still would after an Ok of another that leaves it blocked, and its row's state stays
pub record BlockedStays (facts : Facts) (ask : Table) (sound : Object → Type 0) : Type 0 where
  pub blocked : (o : Object) (other call : Call) (good : Good) → sound o → Passes facts o other → ask o other ≡ None
      → Passes facts o call → ask o call ≡ Some (Ok good) → leaves_blocked facts o call other ≡ true
      → ask (after facts o call (Ok good)) other ≡ None
  pub state : (o : Object) (other call : Call) (good : Good) → sound o → Passes facts o other → ask o other ≡ None
      → Passes facts o call → ask o call ≡ Some (Ok good) → leaves_blocked facts o call other ≡ true
      → state_in (row_at (after facts o call (Ok good)).rows other.desc) ≡ state_in (row_at o.rows other.desc)

-- ---- what its shape allows

-- the shape keeps to what every shape keeps to; a call blocks only where its function may; a refusal isn't the guard's;
-- an Ok of a function that takes a returned word into a field has a word
pub record ShapeAllows (facts : Facts) (ask : Table) : Type 0 where
  pub shape : is_allowed facts ≡ true
  pub blocks : (o : Object) (call : Call) → ask o call ≡ None → (fun_at facts.funs call.fun).block ≡ true
  pub refuses : (o : Object) (call : Call) (code : Code) → ask o call ≡ Some (Refused code) → is_guards code ≡ false
  pub words : (o : Object) (call : Call) (good : Good) → ask o call ≡ Some (Ok good) → wants_word (fun_at facts.funs call.fun) ≡ true
      → 0 < length good.words

-- ---- it counts slowly

-- a number that no word which a service gives comes near of
abbrev pub slow : ℕ
slow = 2 ^ 34

-- the argument that an effect sets its field to
abbrev pub set_to : Call → Effect → ℕ
set_to call (SetArg k) = word_of (arg_at call k)
set_to call _ = 0

-- the greatest argument that a function sets a counted field to
abbrev pub most_set : Facts → Call → List (ℕ × Effect) → ℕ
most_set facts call [] = 0
most_set facts call (e ∷ es) = max (if is_counted facts e.0 then set_to call e.1 else 0) (most_set facts call es)

-- an Ok leaves each counted word at most 2^34, or one more than the greatest before; that of a replayed call, whatever
-- the service holds, may also leave the argument that it sets the word to
pub record CountsSlowly (facts : Facts) (ask : Table) (sound : Object → Type 0) : Type 0 where
  pub calls : (o : Object) (call : Call) (good : Good) → sound o → Passes facts o call → ask o call ≡ Some (Ok good)
      → most_counted facts (after facts o call (Ok good)).rows ≤ max slow (most_counted facts o.rows + 1)
  pub replays : (held : Object) (call : Call) (good : Good) → MayAsk facts held call → is_replayed facts call.fun ≡ true
      → ask held call ≡ Some (Ok good)
      → most_counted facts (after facts held call (Ok good)).rows
      ≤ max (max slow (most_set facts call (fun_at facts.funs call.fun).effects)) (most_counted facts held.rows + 1)
