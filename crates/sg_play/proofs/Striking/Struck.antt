-- Each stop so far stays asked for after each step of a client, and a stop is asked for by the client in whose step it comes.
use Rattle.std.proofs.Common.{◌≡◌, ◌≢◌, ◌⊎◌, ℕ, ◌+◌, ◌-◌, ◌≤◌, Bool, true, false, ◌&&◌, ◌||◌, List, [], ◌∷◌, ◌++◌, None, Some, IsSome, flat_map, length, map, refl, sym, ◌∙◌, ap, subst, inl, inr, arith, slice_set, append_assoc}
use Rattle.std.specs.List.{list_any}
use Rattle.std.specs.Prelude.{◌==◌}
use Rattle.sg_facts.specs.sg_base.Lists.{Each}
use Rattle.sg_facts.specs.sg_base.Stops.{asked_after}
use Rattle.sg_facts.specs.sg_base.declared.call.Call.{Call}
use Rattle.sg_facts.specs.sg_base.declared.reply.Reply.{Reply}
use Rattle.sg_facts.specs.declared.entry.Entry.{Entry}
use Rattle.sg_facts.specs.declared.trace.Item.{Item}
use Rattle.sg_facts.specs.declared.trace.Tag.TheVariants.{Client}
use Rattle.sg_facts.specs.Facts.{Facts, is_visible}
use Rattle.sg_facts.specs.Object.{Object, object_of}
use Rattle.sg_facts.specs.Trace.{Boot}
use Rattle.sg_plain.specs.sg_hist.Ending.{IsAfterCommit, is_still_blocked}
use Rattle.sg_plain.specs.sg_hist.Growing.{IsInLast, IsOfNoEntry, booted, last_stop, noted, struck}
use Rattle.sg_plain.specs.sg_hist.Inside.Parts.{waking_entries}
use Rattle.sg_plain.specs.sg_hist.Reading.{is_by_guard, is_item_of, is_tagged, last_items, older_items, places_in}
use Rattle.sg_plain.specs.sg_hist.Recovered.{is_clients, is_replied, is_visible_reply}
use Rattle.sg_plain.specs.Answering.{no_query_waits}
use Rattle.sg_plain.specs.Playing.Plays.{IsPlaying}
use Rattle.sg_plain.specs.sg_script.declared.script.Script.{Script}
use Rattle.sg_plain.specs.sg_clients.WorldView.{Seat, WorldView, boot_number, held_replies, is_held_in, is_held_phase, is_offered, no_reply, offered_by, seat_of, unanswered, wakes_seat, woken_seat}
use Rattle.sg_plain.specs.sg_clients.declared.phase.Phase.{Phase}
use Rattle.sg_plain.specs.sg_clients.declared.phase.Phase.TheVariants.{Idle, Asked, Held, Receipted, Blocked}
use Rattle.sg_plain.proofs.sg_hist.Growing.{any_last, any_more}
use Rattle.sg_world.proofs.InBoots.{held_there}
use Rattle.sg_world.proofs.Points.{some_is}
use Rattle.sg_world.proofs.sg_recovery_laws.InBoots.{older_noted}
use Rattle.sg_world.proofs.sg_recovery_laws.Lists.{each_map}
use Rattle.sg_world.specs.sg_recovery_laws.LastItem.LastPlace.{HaveItems}
use Rattle.sg_world.proofs.sg_world_laws.Ending.Boots.{items_noted}
use Rattle.sg_world.proofs.sg_world_laws.Ending.Calls.{none_of_next, none_of_stub, own_tag, stub_tagged}
use Rattle.sg_world.proofs.sg_world_laws.Ending.Ended.{ends_noted, last_point_noted, stop_noted}
use Rattle.sg_world.proofs.sg_world_laws.Ending.Shapes.{answered_seats, entry_with, given_seats, seat_after, woken}
use Rattle.sg_world.proofs.sg_world_laws.Entering.{kept_all, kept_with}
use Rattle.sg_world.proofs.sg_world_laws.Refusing.{by_the_guard}
use Rattle.sg_world.proofs.sg_world_laws.Turns.{seat_there}
use Rattle.sg_world.specs.declared.did.Did.{Did}
use Rattle.sg_world.specs.declared.did.Did.TheVariants.{Answered, Blocked as Waits, Booted, Loaded, Lost, Replayed, Served, Skipped, Struck}
use Rattle.sg_world.specs.Steps.{AsksService, Commits, PassesGuard, Refuses, Returns, Steps}
use Rattle.sg_world.specs.sg_world_laws.Setting.{Setting}
use Rattle.sg_facts.proofs.Replaying.Found.{same_test}
use Rattle.sg_play.proofs.Striking.Boots.{asked_booted, asked_entered, asked_kept, asked_noted, asked_struck}
use Rattle.sg_play.proofs.Striking.Held.{in_last_items}
use Rattle.sg_play.proofs.Striking.Made.{its, kept_set, kept_woken, last_made, left_entered, next}
use Rattle.sg_play.proofs.Striking.Now.{asks_now, awake_in, unreplied_now}
use Rattle.sg_play.proofs.Waking.Calls.{entries_below}
use Rattle.sg_play.proofs.Waking.Items.{have_items}
use Rattle.sg_play.proofs.Waking.Waiting.{line_stopped, line_stub}
use Rattle.sg_play.proofs.Waking.Woken.{stopped_goes}
use Rattle.sg_play.specs.Recovering.{RecoversSoFar}
use Rattle.sg_play.specs.Striking.Striking.{AreAskedSoFar, IsStriking, SomeCallAsks}
use Rattle.sg_play.specs.Waking.Waking.{AreWokenSoFar, is_asking}

-- ---- the last boot, however the boots are given

older_on : (boots : List Boot) (item : Item) → boots ≢ [] → older_items [] (noted boots item) ≡ older_items [] boots
older_on [] item some = absurd (some refl)
older_on (b ∷ boots) item some = older_noted [] b boots item

last_on : (boots : List Boot) (item : Item) → boots ≢ [] → last_items (noted boots item) ≡ last_items boots ++ item ∷ []
last_on [] item some = absurd (some refl)
last_on (b ∷ boots) item some = items_noted b boots item

module _ (z : Setting) (h : List Entry) (u : List Call) where
  noted_on : (boots : List Boot) (item : Item) → boots ≢ [] → last_stop boots ≡ None → IsOfNoEntry item h → AreAskedSoFar z.iface h u [] boots → AreAskedSoFar z.iface h u [] (noted boots item)
  noted_on [] item some running none is = absurd (some refl)
  noted_on (b ∷ boots) item some running none is = asked_noted z.iface h u u item none (λ k has. has) [] b boots running is

  struck_on : (boots : List Boot) (stop : ℕ) → boots ≢ [] → IsAfterCommit z.iface.facts (last_items boots) stop ⊎ SomeCallAsks z.iface h u (older_items [] boots) (last_items boots) []
      → AreAskedSoFar z.iface h u [] boots → AreAskedSoFar z.iface h u [] (struck boots stop)
  struck_on [] stop some own is = absurd (some refl)
  struck_on (b ∷ boots) stop some own is = asked_struck z.iface h u stop [] b boots own is

some_noted : (boots : List Boot) (item : Item) → boots ≢ [] → noted boots item ≢ []
some_noted [] item some none = some refl
some_noted (b ∷ []) item some none = cc none
some_noted (b ∷ c ∷ boots) item some none = cc none

-- one more item stands among those of the entries
has_more : (older items : List Item) (item : Item) (h : List Entry) → HaveItems (older ++ items) h → HaveItems (older ++ (items ++ item ∷ [])) h
has_more older items item h has = each_map (λ e. (is_by_guard e.reply || list_any (is_item_of e) (older ++ items)) ≡ true) (λ e. (is_by_guard e.reply || list_any (is_item_of e) (older ++ (items ++ item ∷ []))) ≡ true) h
    (λ e is. ap (λ l. is_by_guard e.reply || list_any (is_item_of e) l) (sym (append_assoc older items (item ∷ []))) ∙ more e (is_by_guard e.reply) (older ++ items) is) has
  where
    any_front : (e : Entry) (xs : List Item) → list_any (is_item_of e) xs ≡ true → list_any (is_item_of e) (xs ++ item ∷ []) ≡ true
    any_front e [] is = absurd (cc is)
    any_front e (x ∷ xs) is = at (is_item_of e x) is (any_front e xs)
      where
        at : (b : Bool) → (b || list_any (is_item_of e) xs) ≡ true → (list_any (is_item_of e) xs ≡ true → list_any (is_item_of e) (xs ++ item ∷ []) ≡ true) → (b || list_any (is_item_of e) (xs ++ item ∷ [])) ≡ true
        at true is rest = refl
        at false is rest = rest is

    more : (e : Entry) (g : Bool) (xs : List Item) → (g || list_any (is_item_of e) xs) ≡ true → (g || list_any (is_item_of e) (xs ++ item ∷ [])) ≡ true
    more e true xs is = refl
    more e false xs is = any_front e xs is

-- ---- a step

module _ (z : Setting) (script : Script) (x : WorldView) (given : List (List ℕ)) (c : ℕ) (first : 1 ≤ c) (last : c ≤ length x.seats) (playing : IsPlaying z.iface script x.history x.seats given)
    (before : RecoversSoFar z x) (none : x.withdrawn ≡ []) (queries : no_query_waits z.iface.facts ≡ true) (waking : AreWokenSoFar z.iface.facts x.history x.run.boots x.seats) (is : IsStriking z x) where
  abbrev facts : Facts
  facts = z.iface.facts

  abbrev s : Seat
  s = seat_of x c

  abbrev boots : List Boot
  boots = x.run.boots

  abbrev gone : List Call
  gone = map (λ y. y.call) x.withdrawn

  abbrev Asked' : List Entry → List Seat → List Boot → Type 0
  Asked' h seats l = AreAskedSoFar z.iface h (flat_map offered_by seats ++ gone) [] l

  begun : x.run.boots ≢ []
  begun = before.recovering.reboots.booted

  -- it holds of a world by its history, its boots and its seats
  striking_at : (later : WorldView) (h : List Entry) (seats : List Seat) (l : List Boot) → later.history ≡ h → later.seats ≡ seats → later.run.boots ≡ l → later.withdrawn ≡ x.withdrawn → Asked' h seats l → IsStriking z later
  striking_at later h seats l history seats_are boots_are withdrawn so =
      subst (λ m. AreAskedSoFar z.iface m (unanswered later) [] later.run.boots) (sym history)
      (subst (λ m. AreAskedSoFar z.iface h (flat_map offered_by later.seats ++ map (λ y. y.call) m) [] later.run.boots) (sym withdrawn)
      (subst (λ m. AreAskedSoFar z.iface h (flat_map offered_by m ++ gone) [] later.run.boots) (sym seats_are)
      (subst (AreAskedSoFar z.iface h (flat_map offered_by seats ++ gone) []) (sym boots_are) so)))

  offers_by : (p : Phase) → s.phase ≡ p → is_offered p ≡ true → is_offered s.phase ≡ true
  offers_by p was offers = ap is_offered was ∙ offers

  -- the seat is another, whose call goes on to be offered
  set_so : (new : Seat) (l : List Boot) → (is_offered (seat_of x c).phase ≡ true → (is_offered new.phase ≡ true) × (new.call ≡ (seat_of x c).call)) → Asked' x.history x.seats l
      → Asked' x.history (slice_set x.seats (c - 1) new) l
  set_so new l goes so =
      asked_kept z.iface x.history (flat_map offered_by x.seats ++ gone) (flat_map offered_by (slice_set x.seats (c - 1) new) ++ gone)
      (kept_all x.history (flat_map offered_by x.seats ++ gone) (flat_map offered_by (slice_set x.seats (c - 1) new) ++ gone) (kept_set x.seats c first last new gone goes)) [] l so

  -- its call is entered, by the guard or with an item of the last boot
  entered_so : (reply : Reply) (new : Seat) (l : List Boot) → is_offered (seat_of x c).phase ≡ true
      → (is_by_guard reply ≡ true) ⊎ ((last_stop l ≡ None) × (list_any (is_item_of (entry_with facts x c reply)) (last_items l) ≡ true)) → Asked' x.history x.seats l
      → Asked' (x.history ++ entry_with z.iface.facts x c reply ∷ []) (slice_set (woken z.iface.facts x c reply) (c - 1) new) l
  entered_so reply new l offers whose so =
      let test = λ (other : Call). wakes_seat facts (object_of facts x.history).rows s.call reply other in
      let u' = flat_map offered_by (slice_set (woken facts x c reply) (c - 1) new) ++ gone in
      asked_entered z.iface x.history (flat_map offered_by x.seats ++ gone) u' (entry_with facts x c reply) (last_made facts script x playing.callers none c first last offers)
      (kept_with x.history (entry_with facts x c reply) (flat_map offered_by x.seats ++ gone) u' (left_entered test x.seats c first last new gone)) [] l whose so

  goes_on : (v : Object) → x.running ≡ Some v → last_stop x.run.boots ≡ None
  goes_on v up = before.last.goes_on (subst IsSome (sym up) refl)

  -- ---- items

  seat_below : Each (λ e. (e.call.client == c) ≡ true → e.call.seq ≤ (seat_of x c).seq) x.history
  seat_below = entries_below facts script x.history c s (playing.callers.each c first last)

  number : is_offered (seat_of x c).phase ≡ true → (seat_of x c).call.seq ≡ (seat_of x c).seq + 1
  number offers = next facts script x playing.callers none c first last offers

  none_item : (asks : AsksService z x c) → IsOfNoEntry asks.item x.history
  none_item asks =
      let n = number (offers_by Asked asks.reaches.uses.let_in.phase refl) in
      none_of_next asks.item c s.call.seq s.seq x.history asks.tag (omega (arith, n)) seat_below

  its_item : (asks : AsksService z x c) (reply : Reply) → is_item_of (entry_with z.iface.facts x c reply) asks.item ≡ true
  its_item asks reply =
      ap (is_tagged s.call.client s.call.seq) asks.tag
      ∙ ap (λ n. is_tagged n s.call.seq (Client c s.call.seq)) (its facts script x playing.callers none c first last (offers_by Asked asks.reaches.uses.let_in.phase refl)) ∙ own_tag c s.call.seq

  -- ---- a stop

  has_all : HaveItems (older_items [] x.run.boots ++ last_items x.run.boots) x.history
  has_all = have_items facts x.history x.run before.recovering.served.items

  module _ (let_in : PassesGuard z x c) (running : last_stop x.run.boots ≡ None) where
    offers : is_offered (seat_of x c).phase ≡ true
    offers = offers_by Asked let_in.phase refl

    no_reply_yet : list_any (λ item. is_tagged c (seat_of x c).call.seq item.tag && is_replied item.outcome) (last_items x.run.boots) ≡ false
    no_reply_yet = unreplied_now x.history x.seats boots c s.call.seq s.seq let_in.phase seat_below (omega (arith, number offers)) running (before.ending.lost none)

    awake_on : (l : List Boot) → AreWokenSoFar z.iface.facts x.history l x.seats → (older items : List Item) → older_items [] l ≡ older → last_items l ≡ items
        → is_still_blocked z.iface.facts (waking_entries z.iface.facts x.history) (seat_of x c).call (places_in older [] items []) ≡ false
    awake_on l woken_so older items older_is items_are =
        let seat = woken_so.each c first last in
        subst (λ m. is_still_blocked facts (waking_entries facts x.history) s.call (places_in m [] items []) ≡ false) older_is
        (subst (λ m. is_still_blocked facts (waking_entries facts x.history) s.call (places_in (older_items [] l) [] m []) ≡ false) items_are
        (awake_in facts (waking_entries facts x.history) c s (its facts script x playing.callers none c first last offers) (number offers) (older_items [] l) [] (last_items l) seat.items (seat.since (ap is_asking let_in.phase))))

    -- the service stops as it is about to be used
    asks_idle : SomeCallAsks z.iface x.history (unanswered x) (older_items [] x.run.boots) (last_items x.run.boots) []
    asks_idle = asks_now z script x playing.callers none c first last let_in.phase let_in.passes (older_items [] boots) (last_items boots) has_all no_reply_yet (awake_on boots waking (older_items [] boots) (last_items boots) refl refl)

    -- or in an item that is no reply
    asks_within : (item : Item) → (is_tagged c (seat_of x c).call.seq item.tag && is_replied item.outcome) ≡ false → AreWokenSoFar z.iface.facts x.history (noted x.run.boots item) x.seats
        → SomeCallAsks z.iface x.history (unanswered x) (older_items [] (noted x.run.boots item)) (last_items (noted x.run.boots item)) []
    asks_within item free woken_so =
        subst (λ l. SomeCallAsks z.iface x.history (unanswered x) l (last_items (noted boots item)) []) (sym (older_on boots item begun))
        (subst (λ l. SomeCallAsks z.iface x.history (unanswered x) (older_items [] boots) l []) (sym (last_on boots item begun))
        (asks_now z script x playing.callers none c first last let_in.phase let_in.passes (older_items [] boots) (last_items boots ++ item ∷ []) (has_more (older_items [] boots) (last_items boots) item x.history has_all)
        (any_more (λ y. is_tagged c s.call.seq y.tag && is_replied y.outcome) (last_items boots) item free ∙ no_reply_yet)
        (awake_on (noted boots item) woken_so (older_items [] boots) (last_items boots ++ item ∷ []) (older_on boots item begun) (last_on boots item begun))))

  stops_within : (let_in : PassesGuard z x c) → last_stop x.run.boots ≡ None → (item : Item) (stop : ℕ) → IsOfNoEntry item x.history → (is_tagged c (seat_of x c).call.seq item.tag && is_replied item.outcome) ≡ false
      → AreWokenSoFar z.iface.facts x.history (noted x.run.boots item) x.seats → Asked' x.history x.seats (struck (noted x.run.boots item) stop)
  stops_within let_in running item stop none_of free woken_so =
      struck_on z x.history (unanswered x) (noted boots item) stop (some_noted boots item begun) (inr (asks_within let_in running item free woken_so)) (noted_on z x.history (unanswered x) boots item begun running none_of is)

  -- ---- the lines

  -- an item of no entry is noted
  notes : (v : Object) → x.running ≡ Some v → (item : Item) → IsOfNoEntry item x.history → Asked' x.history x.seats (noted x.run.boots item)
  notes v up item none_of = noted_on z x.history (unanswered x) boots item begun (goes_on v up) none_of is

  -- a visible call is committed
  committed : (asks : AsksService z x c) (reply : Reply) (new : Seat) → Asked' (x.history ++ entry_with z.iface.facts x c reply ∷ []) (slice_set (woken z.iface.facts x c reply) (c - 1) new) (noted x.run.boots asks.item)
  committed asks reply new =
      entered_so reply new (noted boots asks.item) (offers_by Asked asks.reaches.uses.let_in.phase refl)
      (inr (
        stop_noted boots asks.item ∙ goes_on asks.service asks.reaches.uses.running,
        ap (list_any (is_item_of (entry_with facts x c reply))) (last_on boots asks.item begun) ∙ any_last (is_item_of (entry_with facts x c reply)) (last_items boots) asks.item (its_item asks reply),
      ))
      (notes asks.service asks.reaches.uses.running asks.item (none_item asks))

  commits : (between later : WorldView) (l : Commits z x c between) (now : List Boot) → later.history ≡ between.history → later.seats ≡ between.seats → later.run.boots ≡ now → later.withdrawn ≡ between.withdrawn
      → Asked' (x.history ++ entry_with z.iface.facts x c l.reply ∷ []) (slice_set (woken z.iface.facts x c l.reply) (c - 1) (seat_after z.iface.facts x c l.reply Receipted l.reply)) now → IsStriking z later
  commits between later l now history seats boots_are withdrawn so =
      striking_at later (x.history ++ entry_with facts x c l.reply ∷ []) (slice_set (woken facts x c l.reply) (c - 1) (seat_after facts x c l.reply Receipted l.reply)) now (history ∙ ap (λ w. w.history) l.now)
      (seats ∙ ap (λ w. w.seats) l.now ∙ given_seats facts x c l.reply (its facts script x playing.callers none c first last (offers_by Asked l.asks.reaches.uses.let_in.phase refl))) boots_are
      (withdrawn ∙ ap (λ w. w.withdrawn) l.now) so

  -- it stopped right after that
  after_commit : (asks : AsksService z x c) → is_visible z.iface.facts (seat_of x c).call.fun ≡ true → is_replied asks.item.outcome ≡ true
      → IsAfterCommit z.iface.facts (last_items (noted x.run.boots asks.item)) (asked_after asks.item.points 1)
  after_commit asks visible replied =
      subst (λ l. IsAfterCommit facts l (asked_after asks.item.points 1)) (sym (last_on boots asks.item begun))
      (ends_noted facts (last_items boots) asks.item ∙ its_reply, ap (λ n. asked_after n 1) (sym (last_point_noted 0 (last_items boots) asks.item)))
    where
      its_reply : is_visible_reply facts asks.item ≡ true
      its_reply =
          ap (λ t. is_clients t && is_visible facts asks.item.shown.fun && is_replied asks.item.outcome) asks.tag
          ∙ ap (λ (k : Call). true && is_visible facts k.fun && is_replied asks.item.outcome) asks.shown
          ∙ ap (λ b. true && b && is_replied asks.item.outcome) visible ∙ ap (λ b. true && true && b) replied

  -- a held reply is returned
  returns : (reply : Reply) (later : WorldView) → Returns z x c reply later → IsStriking z later
  returns reply later l =
      let new = seat_after facts x c reply Idle no_reply in
      striking_at later (x.history ++ entry_with facts x c reply ∷ []) (slice_set (woken facts x c reply) (c - 1) new) boots (ap (λ w. w.history) l.now)
      (ap (λ w. w.seats) l.now ∙ answered_seats facts x c reply (its facts script x playing.callers none c first last (offers_by Held l.phase refl))) (ap (λ w. w.run.boots) l.now) (ap (λ w. w.withdrawn) l.now)
      (entered_so reply new boots (offers_by Held l.phase refl) (inr (before.last.goes_on l.up, in_last_items x.run (entry_with facts x c reply) in_last)) is)
    where
      up : (v : Object) × (x.running ≡ Some v)
      up = some_is x.running l.up

      holds : is_held_in (boot_number x) (seat_of x c) ≡ true
      holds = ap (λ p. is_held_phase p && (s.boot == boot_number x)) l.phase ∙ same_test s.boot (boot_number x) l.boot

      in_last : IsInLast x.run (entry_with z.iface.facts x c reply)
      in_last =
          subst (λ r. IsInLast x.run (record { call = s.call; reply = r })) (sym l.its)
          (held_there (IsInLast x.run) (boot_number x) x.seats (c - 1) (seat_of x c) (seat_there x c first last) holds (subst (λ r. Each (IsInLast x.run) (held_replies (record x { running = r }))) up.1 before.last.held))

  refuses : (reply : Reply) (later : WorldView) → Refuses z x c reply later → IsStriking z later
  refuses reply later l =
      let new = seat_after facts x c reply Idle no_reply in
      striking_at later (x.history ++ entry_with facts x c reply ∷ []) (slice_set (woken facts x c reply) (c - 1) new) boots (ap (λ w. w.history) l.now)
      (ap (λ w. w.seats) l.now ∙ answered_seats facts x c reply (its facts script x playing.callers none c first last (offers_by Asked l.phase refl))) (ap (λ w. w.run.boots) l.now) (ap (λ w. w.withdrawn) l.now)
      (entered_so reply new boots (offers_by Asked l.phase refl) (inl (ap is_by_guard l.its ∙ by_the_guard z.iface (object_of facts x.history) s.call l.code l.guarded)) is)

  stub_free : (item : Item) → is_clients item.tag ≡ false → (is_tagged c (seat_of x c).call.seq item.tag && is_replied item.outcome) ≡ false
  stub_free item stub = ap (λ b. b && is_replied item.outcome) (stub_tagged c s.call.seq item.tag stub)

  stopped_free : (item : Item) → is_replied item.outcome ≡ false → (is_tagged c (seat_of x c).call.seq item.tag && is_replied item.outcome) ≡ false
  stopped_free item free = ap (λ b. is_tagged c s.call.seq item.tag && b) free ∙ nothing (is_tagged c s.call.seq item.tag)
    where
      nothing : (b : Bool) → (b && false) ≡ false
      nothing true = refl
      nothing false = refl

  pub striking_step : (did : Did) (later : WorldView) → Steps z x c did later → IsStriking z later
  striking_step Skipped later l = subst (IsStriking z) (sym l.now) is
  striking_step (Answered reply) later (inl l) =
      let new : Seat = record s { phase = Idle; reply = no_reply } in
      striking_at later x.history (slice_set x.seats (c - 1) new) boots (ap (λ w. w.history) l.now) (ap (λ w. w.seats) l.now) (ap (λ w. w.run.boots) l.now) (ap (λ w. w.withdrawn) l.now)
      (set_so new boots (λ offers. absurd (let not_so : is_offered s.phase ≡ false = ap is_offered l.phase in cc (not_so, offers))) is)
  striking_step (Answered reply) later (inr (inl l)) = returns reply later l
  striking_step (Answered reply) later (inr (inr l)) = refuses reply later l
  striking_step Lost later l =
      let new : Seat = record s { phase = Asked } in
      striking_at later x.history (slice_set x.seats (c - 1) new) boots (ap (λ w. w.history) l.now) (ap (λ w. w.seats) l.now) (ap (λ w. w.run.boots) l.now) (ap (λ w. w.withdrawn) l.now)
      (set_so new boots (λ offers. (refl, refl)) is)
  striking_step Booted later l =
      let u' = flat_map offered_by (map (woken_seat (λ call. true)) x.seats) ++ gone in
      striking_at later x.history (map (woken_seat (λ call. true)) x.seats) (booted boots) (ap (λ w. w.history) l.now) (ap (λ w. w.seats) l.now) (ap (λ w. w.run.boots) l.now) (ap (λ w. w.withdrawn) l.now)
      (asked_kept z.iface x.history (flat_map offered_by x.seats ++ gone) u' (kept_all x.history (flat_map offered_by x.seats ++ gone) u' (kept_woken (λ call. true) x.seats gone)) [] (booted boots)
      (asked_booted z.iface x.history (flat_map offered_by x.seats ++ gone) [] boots is))
  striking_step Struck later (inl l) =
      let stop = asked_after x.run.points 1 in
      striking_at later x.history x.seats (struck boots stop) (ap (λ w. w.history) l.now) (ap (λ w. w.seats) l.now) (ap (λ w. w.run.boots) l.now) (ap (λ w. w.withdrawn) l.now)
      (struck_on z x.history (unanswered x) boots stop begun (inr (asks_idle l.uses.let_in (goes_on l.service l.uses.running))) is)
  striking_step Struck later (inr (inl l)) =
      let stub : is_clients l.item.tag ≡ false = ap is_clients l.tag in
      striking_at later x.history x.seats (struck (noted boots l.item) l.item.points) (ap (λ w. w.history) l.now) (ap (λ w. w.seats) l.now) (ap (λ w. w.run.boots) l.now) (ap (λ w. w.withdrawn) l.now)
      (stops_within l.uses.let_in (goes_on l.service l.uses.running) l.item l.item.points (none_of_stub l.item x.history stub) (stub_free l.item stub)
      (line_stub z script x given c first last playing before queries waking l.item stub))
  striking_step Struck later (inr (inr (inl l))) =
      let uses = l.asks.reaches.uses in
      striking_at later x.history x.seats (struck (noted boots l.asks.item) l.asks.item.points) (ap (λ w. w.history) l.now) (ap (λ w. w.seats) l.now) (ap (λ w. w.run.boots) l.now) (ap (λ w. w.withdrawn) l.now)
      (stops_within uses.let_in (goes_on l.asks.service uses.running) l.asks.item l.asks.item.points (none_item l.asks) (stopped_free l.asks.item (ap is_replied l.outcome))
      (line_stopped z script x given c first last playing before queries waking l.asks.item l.asks.tag l.asks.shown (offers_by Asked uses.let_in.phase refl) (ap is_asking uses.let_in.phase) (stopped_goes l.asks.item.outcome l.outcome)))
  striking_step Struck later (inr (inr (inr l))) =
      let item = l.commits.asks.item in
      let stop = asked_after item.points 1 in
      let new = seat_after facts x c l.commits.reply Receipted l.commits.reply in
      let e = entry_with facts x c l.commits.reply in
      commits l.between later l.commits (struck (noted boots item) stop) (ap (λ w. w.history) l.now) (ap (λ w. w.seats) l.now)
      (ap (λ w. w.run.boots) l.now ∙ ap (λ (w : WorldView). struck w.run.boots (asked_after w.run.points 1)) l.commits.now) (ap (λ w. w.withdrawn) l.now)
      (struck_on z (x.history ++ e ∷ []) (flat_map offered_by (slice_set (woken facts x c l.commits.reply) (c - 1) new) ++ gone) (noted boots item) stop (some_noted boots item begun)
      (inl (after_commit l.commits.asks l.commits.visible l.commits.outcome)) (committed l.commits.asks l.commits.reply new))
  striking_step Replayed later l =
      striking_at later x.history x.seats (noted boots l.item) (ap (λ w. w.history) l.now) (ap (λ w. w.seats) l.now) (ap (λ w. w.run.boots) l.now) (ap (λ w. w.withdrawn) l.now)
      (notes l.service l.uses.running l.item (none_of_stub l.item x.history (ap is_clients l.tag)))
  striking_step Loaded later l =
      striking_at later x.history x.seats (noted boots l.item) (ap (λ w. w.history) l.now) (ap (λ w. w.seats) l.now) (ap (λ w. w.run.boots) l.now) (ap (λ w. w.withdrawn) l.now)
      (notes l.service l.uses.running l.item (none_of_stub l.item x.history (ap is_clients l.tag)))
  striking_step Waits later l =
      let new : Seat = record s { phase = Blocked } in
      striking_at later x.history (slice_set x.seats (c - 1) new) (noted boots l.asks.item) (ap (λ w. w.history) l.now) (ap (λ w. w.seats) l.now) (ap (λ w. w.run.boots) l.now) (ap (λ w. w.withdrawn) l.now)
      (set_so new (noted boots l.asks.item) (λ offers. (refl, refl)) (notes l.asks.service l.asks.reaches.uses.running l.asks.item (none_item l.asks)))
  striking_step Served later (inl l) =
      commits l.between later l.commits (noted boots l.commits.asks.item) (ap (λ w. w.history) l.now) (ap (λ w. w.seats) l.now) (ap (λ w. w.run.boots) l.now ∙ ap (λ w. w.run.boots) l.commits.now)
      (ap (λ w. w.withdrawn) l.now) (committed l.commits.asks l.commits.reply (seat_after facts x c l.commits.reply Receipted l.commits.reply))
  striking_step Served later (inr l) =
      let new : Seat = record s { phase = Held; boot = length boots; reply = l.reply } in
      striking_at later x.history (slice_set x.seats (c - 1) new) (noted boots l.asks.item) (ap (λ w. w.history) l.now) (ap (λ w. w.seats) l.now) (ap (λ w. w.run.boots) l.now) (ap (λ w. w.withdrawn) l.now)
      (set_so new (noted boots l.asks.item) (λ offers. (refl, refl)) (notes l.asks.service l.asks.reaches.uses.running l.asks.item (none_item l.asks)))
