-- The items of the setup come first in a play: it holds of a new world, it is kept by all that happens, and it gives the promise.
use Rattle.std.proofs.Common.{◌≡◌, ◌⊎◌, ℕ, ◌+◌, ◌-◌, ◌≤◌, Bool, true, false, cond, ◌&&◌, ◌||◌, List, [], ◌∷◌, ◌++◌, None, Some, length, refl, sym, ◌∙◌, ap, subst, inl, inr, arith, replicate}
use Rattle.std.specs.Prelude.{◌==◌, nat_le, nat_lt}
use Rattle.std.specs.List.{list_all}
use Rattle.std.specs.declared.option.Option.{Option}
use Rattle.std.proofs.lemmas.Bool.Decides.{nat_tests}
use Rattle.std.proofs.lemmas.List.Folds.{list_all-append}
use Rattle.sg_facts.specs.sg_base.declared.call.Call.{Call}
use Rattle.sg_facts.specs.declared.trace.Item.{Item}
use Rattle.sg_facts.specs.declared.trace.Tag.{Tag}
use Rattle.sg_facts.specs.declared.trace.Tag.TheVariants.{Client, Load, Walk}
use Rattle.sg_facts.specs.Facts.{Facts}
use Rattle.sg_facts.specs.Trace.{Boot, Run}
use Rattle.sg_facts.proofs.Replaying.Found.{same_test}
use Rattle.sg_plain.proofs.sg_hist.Growing.{items_booted, items_more, items_struck}
use Rattle.sg_plain.specs.sg_hist.Clients.{calls_of}
use Rattle.sg_plain.specs.sg_hist.Growing.{noted}
use Rattle.sg_plain.specs.sg_hist.Reading.{items_of}
use Rattle.sg_plain.specs.Calls.{call_after, script_calls}
use Rattle.sg_plain.specs.Playing.Callers.{handed, is_receipted, is_setting_up}
use Rattle.sg_plain.specs.Playing.Plays.{IsPlaying}
use Rattle.sg_plain.specs.Playing.Turns.{is_free_phase}
use Rattle.sg_plain.specs.sg_hist.Ending.{client_of}
use Rattle.sg_plain.specs.Inside.Kept.{is_of_setup, is_setup_first}
use Rattle.sg_plain.specs.sg_script.declared.script.Script.{Script}
use Rattle.sg_plain.specs.sg_clients.WorldView.{Seat, WorldView, happened, in_phase, is_left_phase, is_offered, new_world, no_seat, seat_in, seat_of, with_mark}
use Rattle.sg_plain.specs.sg_clients.declared.mark.MarkKind.TheVariants.{Leave}
use Rattle.sg_plain.specs.sg_clients.declared.phase.Phase.TheVariants.{Asked, Left}
use Rattle.sg_play.proofs.Fronts.{up_to_end, up_to_front}
use Rattle.sg_play.proofs.Waking.Shapes.{call_is_next}
use Rattle.sg_play.specs.SettingUp.{IsSettingUpFirst}
use Rattle.sg_play.specs.Turning.{StepsInTurn, after_step, with_call, with_leaving, with_offer}
use Rattle.sg_world.proofs.sg_world_laws.Ending.Calls.{test_same}
use Rattle.sg_world.specs.declared.did.Did.{Did}
use Rattle.sg_world.specs.declared.did.Did.TheVariants.{Answered, Blocked as Waits, Booted, Loaded, Lost, Replayed, Served, Skipped, Struck}
use Rattle.sg_world.specs.Steps.{AsksService, Commits, HasStepped, Steps}
use Rattle.sg_world.specs.sg_world_laws.Setting.{Setting}

-- ---- an item more

-- whether all items were noted in turns of client 1
abbrev all_first : List Item → Bool
all_first items = list_all (λ item. client_of item.tag == 1) items

-- an item may be noted in a turn of a client: it is of that turn, and where it is of the setup the setup isn't done
record MayBeNoted (script : Script) (w : WorldView) (c : ℕ) (item : Item) : Type 0 where
  pub own : (client_of item.tag == c) ≡ true
  pub setup : is_of_setup script item.tag ≡ true → is_setting_up script w.seats ≡ true

-- a world's run has the items of another's, or one more
abbrev NotesOne : Script → WorldView → ℕ → WorldView → Type 0
NotesOne script w c later =
    (items_of later.run.boots ≡ items_of w.run.boots) ⊎ ((item : Item) × MayBeNoted script w c item × (items_of later.run.boots ≡ items_of w.run.boots ++ item ∷ []))

all_more : (items : List Item) (item : Item) → all_first items ≡ true → (client_of item.tag == 1) ≡ true → all_first (items ++ item ∷ []) ≡ true
all_more items item all own =
    list_all-append (λ x. client_of x.tag == 1) items (item ∷ []) ∙ ap (λ b. b && ((client_of item.tag == 1) && true)) all ∙ ap (λ b. b && true) own

-- what isn't of the setup stands after it
first_more : (script : Script) (items : List Item) (item : Item) → is_setup_first script items ≡ true → (is_of_setup script item.tag ≡ true → all_first (items ++ item ∷ []) ≡ true)
    → is_setup_first script (items ++ item ∷ []) ≡ true
first_more script items item is all = by (is_of_setup script item.tag) refl
  where
    test : Item → Bool
    test x = is_of_setup script x.tag

    by : (b : Bool) → is_of_setup script item.tag ≡ b → is_setup_first script (items ++ item ∷ []) ≡ true
    by true own = ap all_first (up_to_end test items item own) ∙ all own
    by false other = ap all_first (up_to_front test items (item ∷ []) (ap (λ b. b || false) other)) ∙ is

-- what stays done was on before
pub was_on : (b later : Bool) → (b ≡ false → later ≡ false) → later ≡ true → b ≡ true
was_on true later off on = refl
was_on false later off on = absurd (let not = off refl in cc (not, on))

module _ (script : Script) (w now : WorldView) (settled : is_setting_up script w.seats ≡ false → is_setting_up script now.seats ≡ false) (is : IsSettingUpFirst script w) where
  before : is_setting_up script now.seats ≡ true → is_setting_up script w.seats ≡ true
  before on = was_on (is_setting_up script w.seats) (is_setting_up script now.seats) settled on

  -- nothing is noted
  pub setting_up_still : items_of now.run.boots ≡ items_of w.run.boots → IsSettingUpFirst script now
  setting_up_still same = record {
    front = ap (is_setup_first script) same ∙ is.front;
    all = λ on. ap all_first same ∙ is.all (before on);
  }

  setting_up_noted : (c : ℕ) → (is_setting_up script w.seats ≡ true → c ≡ 1) → NotesOne script w c now → IsSettingUpFirst script now
  setting_up_noted c turn (inl same) = setting_up_still same
  setting_up_noted c turn (inr (item, its, more)) =
      let all : is_setting_up script w.seats ≡ true → all_first (items_of w.run.boots ++ item ∷ []) ≡ true
      = λ on. all_more (items_of w.run.boots) item (is.all on) (subst (λ n. (client_of item.tag == n) ≡ true) (turn on) its.own) in
      record {
        front = ap (is_setup_first script) more ∙ first_more script (items_of w.run.boots) item is.front (λ own. all (its.setup own));
        all = λ on. ap all_first more ∙ all (before on);
      }

-- ---- a turn

-- the call that a client makes in the setup isn't handed over yet
within : (a b n : ℕ) → b ≡ a + 1 → nat_le b n ≡ true → nat_lt a n ≡ true
within a b n next is = grind (arith, nat_tests)

both : (a b : Bool) → (a && b) ≡ true → (a ≡ true) × (b ≡ true)
both true b is = (refl, is)
both false b is = absurd (cc is)

module _ (z : Setting) (script : Script) (w : WorldView) (given : List (List ℕ)) (c : ℕ) (first : 1 ≤ c) (last : c ≤ length w.seats) (playing : IsPlaying z.iface script w.history w.seats given) where
  abbrev s : Seat
  s = seat_of w c

  still_on : s.phase ≡ Asked → is_of_setup script (Client c s.call.seq) ≡ true → is_setting_up script w.seats ≡ true
  still_on asked own =
      let its = both (c == 1) (nat_le s.call.seq (length script.setup)) own in
      let next : s.call.seq ≡ s.seq + 1 = call_is_next z.iface.facts script w.history c s (playing.callers.each c first last) (ap is_offered asked) in
      let count : handed s ≡ s.seq = ap (λ p. cond (is_receipted p) (s.seq - 1) s.seq) asked in
      subst (λ n. nat_lt (handed (seat_in w.seats n)) (length script.setup) ≡ true) (test_same c 1 its.0)
      (within (handed s) s.call.seq (length script.setup) (next ∙ ap (λ n. n + 1) (sym count)) its.1)

  one : (item : Item) → MayBeNoted script w c item → (later : WorldView) → items_of later.run.boots ≡ items_of (noted w.run.boots item) → NotesOne script w c later
  one item its later is = by w.run.boots is
    where
      by : (l : List Boot) → items_of later.run.boots ≡ items_of (noted l item)
          → (items_of later.run.boots ≡ items_of l) ⊎ ((x : Item) × MayBeNoted script w c x × (items_of later.run.boots ≡ items_of l ++ x ∷ []))
      by [] is = inl is
      by (b ∷ l) is = inr (item, its, is ∙ items_more b l item)

  none_of_setup : (item : Item) (tag : Tag) → item.tag ≡ tag → is_of_setup script tag ≡ false → is_of_setup script item.tag ≡ true → is_setting_up script w.seats ≡ true
  none_of_setup item tag is none own = absurd (let not = ap (is_of_setup script) is ∙ none in cc (not, own))

  walked : (item : Item) (id k : ℕ) → item.tag ≡ Walk id k c → MayBeNoted script w c item
  walked item id k tag = record { own = ap (λ t. client_of t == c) tag ∙ same_test c c refl; setup = none_of_setup item (Walk id k c) tag refl }

  loaded : (item : Item) (key : List ℕ) → item.tag ≡ Load key c → MayBeNoted script w c item
  loaded item key tag = record { own = ap (λ t. client_of t == c) tag ∙ same_test c c refl; setup = none_of_setup item (Load key c) tag refl }

  asked : (a : AsksService z w c) → MayBeNoted script w c a.item
  asked a = record {
    own = ap (λ t. client_of t == c) a.tag ∙ same_test c c refl;
    setup = λ own. still_on a.reaches.uses.let_in.phase (sym (ap (is_of_setup script) a.tag) ∙ own);
  }

  commits : (between : WorldView) (l : Commits z w c between) → items_of between.run.boots ≡ items_of (noted w.run.boots l.asks.item)
  commits between l = ap (λ x. items_of x.run.boots) l.now

  step_notes : (did : Did) (later : WorldView) → Steps z w c did later → NotesOne script w c later
  step_notes Skipped later l = inl (ap (λ x. items_of x.run.boots) l.now)
  step_notes (Answered reply) later (inl l) = inl (ap (λ x. items_of x.run.boots) l.now)
  step_notes (Answered reply) later (inr (inl l)) = inl (ap (λ x. items_of x.run.boots) l.now)
  step_notes (Answered reply) later (inr (inr l)) = inl (ap (λ x. items_of x.run.boots) l.now)
  step_notes Lost later l = inl (ap (λ x. items_of x.run.boots) l.now)
  step_notes Booted later l = inl (ap (λ x. items_of x.run.boots) l.now ∙ items_booted w.run.boots)
  step_notes Struck later (inl l) = inl (ap (λ x. items_of x.run.boots) l.now ∙ items_struck w.run.boots _)
  step_notes Struck later (inr (inl l)) = one l.item (walked l.item l.id l.k l.tag) later (ap (λ x. items_of x.run.boots) l.now ∙ items_struck (noted w.run.boots l.item) _)
  step_notes Struck later (inr (inr (inl l))) = one l.asks.item (asked l.asks) later (ap (λ x. items_of x.run.boots) l.now ∙ items_struck (noted w.run.boots l.asks.item) _)
  step_notes Struck later (inr (inr (inr l))) =
      one l.commits.asks.item (asked l.commits.asks) later (ap (λ x. items_of x.run.boots) l.now ∙ items_struck l.between.run.boots _ ∙ commits l.between l.commits)
  step_notes Replayed later l = one l.item (walked l.item l.id l.k l.tag) later (ap (λ x. items_of x.run.boots) l.now)
  step_notes Loaded later l = one l.item (loaded l.item l.key l.tag) later (ap (λ x. items_of x.run.boots) l.now)
  step_notes Waits later l = one l.asks.item (asked l.asks) later (ap (λ x. items_of x.run.boots) l.now)
  step_notes Served later (inl l) = one l.commits.asks.item (asked l.commits.asks) later (ap (λ x. items_of x.run.boots) l.now ∙ commits l.between l.commits)
  step_notes Served later (inr l) = one l.asks.item (asked l.asks) later (ap (λ x. items_of x.run.boots) l.now)

  -- a client makes a step, client 1 while the setup isn't done
  pub setting_up_step : (did : Did) (now : WorldView) → (is_setting_up script w.seats ≡ true → c ≡ 1) → (is_setting_up script w.seats ≡ false → is_setting_up script now.seats ≡ false)
      → IsSettingUpFirst script w → HasStepped z w c did now → IsSettingUpFirst script now
  setting_up_step did now its settled is stepped =
      setting_up_noted script w now settled is c its
      (subst (λ (r : Run). NotesOne script w c (record now { run = r })) (sym (ap (λ (x : WorldView). x.run) stepped.counted)) (step_notes did stepped.later stepped.steps))

  -- who leaves notes nothing
  leaving : (later : WorldView) → (with_leaving script later c).run ≡ later.run
  leaving later = by (nat_lt (seat_of later c).seq (length (script_calls script c))) (is_left_phase (seat_of later c).phase)
    where
      by : (more gone : Bool) → (cond more later (happened (cond gone later (with_mark (in_phase later c Left) c Leave)))).run ≡ later.run
      by true gone = refl
      by false true = refl
      by false false = refl

  behind : (did : Did) (later : WorldView) → (after_step script c did later).run ≡ later.run
  behind Skipped later = refl
  behind (Answered reply) later = leaving later
  behind Lost later = refl
  behind Booted later = refl
  behind Struck later = refl
  behind Replayed later = refl
  behind Loaded later = refl
  behind Waits later = refl
  behind Served later = refl

  turn_notes : (handed : Option ℕ) (now : WorldView) → StepsInTurn z script w c handed now → NotesOne script w c now
  turn_notes handed now turn =
      subst (λ (r : Run). NotesOne script w c (record now { run = r })) (sym (ap (λ (x : WorldView). x.run) turn.is ∙ behind turn.did turn.later ∙ ap (λ (x : WorldView). x.run) turn.stepped.counted))
      (step_notes turn.did turn.stepped.later turn.stepped.steps)

  -- a client takes its turn, client 1 while the setup isn't done
  pub setting_up_turn : (handed : Option ℕ) (now : WorldView) → (is_setting_up script w.seats ≡ true → c ≡ 1) → (is_setting_up script w.seats ≡ false → is_setting_up script now.seats ≡ false)
      → IsSettingUpFirst script w → StepsInTurn z script w c handed now → IsSettingUpFirst script now
  setting_up_turn handed now its settled is turn = setting_up_noted script w now settled is c its (turn_notes handed now turn)

-- ---- the other events

called : (w : WorldView) (client : ℕ) (call : Option Call) → (with_call w client call).run ≡ w.run
called w client None = refl
called w client (Some call) = refl

-- an offer notes nothing
pub offer_notes_none : (facts : Facts) (script : Script) (w : WorldView) (client : ℕ) → (with_offer facts script w client).run ≡ w.run
offer_notes_none facts script w client = by (is_free_phase (seat_of w client).phase)
  where
    next : Option Call
    next = call_after facts script w.history client (length (calls_of w.history client))

    by : (b : Bool) → (cond b (with_call w client next) w).run ≡ w.run
    by true = called w client next
    by false = refl

-- in a new world nothing was noted
pub setting_up_new : (script : Script) (w : WorldView) (n : ℕ) → w ≡ new_world (replicate n no_seat) → IsSettingUpFirst script w
setting_up_new script w n new = subst (IsSettingUpFirst script) (sym new) (record { front = refl; all = λ on. refl })
