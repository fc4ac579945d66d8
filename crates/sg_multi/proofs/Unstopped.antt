-- A step of a member that never stopped, as a turn of the play without stops.
use Rattle.std.proofs.Common.{◌≡◌, ◌≢◌, ◌⊎◌, ℕ, ◌+◌, ◌-◌, ◌≤◌, Bool, true, false, List, [], ◌∷◌, ◌++◌, None, Some, IsSome, flat_map, is_some, length, refl, sym, ◌∙◌, ap, subst, inl, inr, arith, replicate, slice_set}
use Rattle.std.specs.Option.{option_map_or}
use Rattle.std.specs.declared.option.Option.{Option}
use Rattle.sg_facts.specs.sg_base.Lists.{Each}
use Rattle.sg_facts.specs.sg_base.Stops.{asked_after}
use Rattle.sg_facts.specs.sg_base.declared.call.Call.{Call}
use Rattle.sg_facts.specs.sg_base.declared.reply.Code.{Code}
use Rattle.sg_facts.specs.sg_base.declared.reply.Good.{Good}
use Rattle.sg_facts.specs.sg_base.declared.reply.Reply.{Reply}
use Rattle.sg_facts.specs.sg_base.declared.reply.Reply.TheVariants.{Ok, Refused}
use Rattle.sg_facts.specs.declared.entry.Entry.{Entry}
use Rattle.sg_facts.specs.declared.trace.Item.{Item}
use Rattle.sg_facts.specs.declared.trace.Tag.TheVariants.{Client}
use Rattle.sg_facts.specs.Facts.{Facts, fun_at, is_visible}
use Rattle.sg_facts.specs.Guard.{guard}
use Rattle.sg_facts.specs.Legal.{answer}
use Rattle.sg_facts.specs.Inside.Rows.{refused_or}
use Rattle.sg_facts.specs.Object.{Object, object_of}
use Rattle.sg_facts.specs.Trace.{Boot, Run}
use Rattle.sg_multi.proofs.sg_sim.Beginning.{new_seat as seat_of_new}
use Rattle.sg_multi.proofs.sg_sim.sg_play.Following.Numbered.{NoneHas, have_items, next_is_new, one_boot}
use Rattle.sg_multi.proofs.sg_sim.sg_play.Following.Seats.{HeldFirst, asked_first, asked_holds, each_set, each_woken, plain_holds}
use Rattle.sg_multi.proofs.sg_sim.sg_play.Following.There.{none_loaded, none_walked, nothing_there, there_committed, there_hidden, there_noted, there_refused}
use Rattle.sg_multi.proofs.sg_sim.sg_play.Waking.Shapes.{call_is_next, call_is_own}
use Rattle.sg_multi.proofs.sg_sim.sg_play.sg_plain.sg_clients.Lines.{length_map}
use Rattle.sg_multi.proofs.sg_sim.sg_play.sg_world.sg_world_laws.Ending.Shapes.{answered_seats, given_seats, seat_after, woken}
use Rattle.sg_multi.specs.sg_sim.sg_plain.Calls.{script_calls}
use Rattle.sg_multi.specs.sg_sim.sg_plain.Playing.Callers.{IsCaller}
use Rattle.sg_multi.specs.sg_sim.sg_plain.Playing.Turns.{is_free_phase}
use Rattle.sg_multi.specs.sg_sim.sg_play.Following.Follows.{HoldAll, HoldsSo, IsAllThere}
use Rattle.sg_multi.specs.sg_sim.sg_play.Recovering.{RecoversSoFar}
use Rattle.sg_multi.specs.sg_sim.sg_play.Turning.{handed_by}
use Rattle.sg_multi.specs.sg_sim.sg_play.sg_hist.Clients.{calls_of}
use Rattle.sg_multi.specs.sg_sim.sg_play.sg_hist.Growing.{IsNextItem, booted, noted, place_after, struck}
use Rattle.sg_multi.specs.sg_sim.sg_play.sg_hist.Inside.Parts.{HasItem}
use Rattle.sg_multi.specs.sg_sim.sg_play.sg_hist.Inside.Reads.{desc_of}
use Rattle.sg_multi.specs.sg_sim.sg_play.sg_hist.Recovered.{struck_in}
use Rattle.sg_multi.specs.sg_sim.sg_play.sg_world.sg_recovery_laws.LastItem.LastPlace.{HaveItems, last_place}
use Rattle.sg_multi.specs.sg_sim.sg_clients.WorldView.{Seat, WorldView, answered_to, boot_number, committed, happened, is_offered, new_world, no_reply, no_seat, offered, seat_in, seat_of, unanswered, wakes_seat, woken_seat}
use Rattle.sg_multi.specs.sg_sim.sg_clients.declared.phase.Phase.{Phase}
use Rattle.sg_multi.specs.sg_sim.sg_clients.declared.phase.Phase.TheVariants.{Idle, Asked, Held, Receipted, Blocked, Left}
use Rattle.sg_multi.specs.sg_sim.sg_world.declared.did.Did.{Did}
use Rattle.sg_multi.specs.sg_sim.sg_world.declared.did.Did.TheVariants.{Answered, Blocked as Waits, Booted, Loaded, Lost, Replayed, Served, Skipped, Struck}
use Rattle.sg_multi.specs.sg_sim.sg_world.Steps.{Commits, HandsOver, HasStepped, Holds, Loads, Loses, Refuses, Replays, Returns, Skips, Steps, StopsAfter, WaitsNow}
use Rattle.sg_multi.specs.sg_sim.sg_world_laws.Setting.{Setting, stubs_of}
use Rattle.sg_multi.specs.Inside.Following.{NeverStruck}
use Rattle.sg_multi.specs.Inside.Member.{KeepsMember}

-- ---- stops

-- a run that nothing struck wasn't struck before
abbrev stops_of : List Boot → List ℕ
stops_of boots = flat_map (λ b. option_map_or (λ stop. stop ∷ []) b.stop []) boots

no_stop_left : (xs ys : List ℕ) → xs ++ ys ≡ [] → xs ≡ []
no_stop_left [] ys none = refl
no_stop_left (x ∷ xs) ys none = absurd (cc none)

no_stop_right : (xs ys : List ℕ) → xs ++ ys ≡ [] → ys ≡ []
no_stop_right [] ys none = none
no_stop_right (x ∷ xs) ys none = absurd (cc none)

both_none : (xs ys : List ℕ) → xs ≡ [] → ys ≡ [] → xs ++ ys ≡ []
both_none xs ys x y = ap (λ l. l ++ ys) x ∙ y

none_noted : (boots : List Boot) (item : Item) → stops_of (noted boots item) ≡ [] → stops_of boots ≡ []
none_noted [] item none = refl
none_noted (b ∷ []) item none = none
none_noted (b ∷ c ∷ boots) item none =
    let own = option_map_or (λ stop. stop ∷ []) b.stop [] in
    both_none own (stops_of (c ∷ boots)) (no_stop_left own (stops_of (noted (c ∷ boots) item)) none) (none_noted (c ∷ boots) item (no_stop_right own (stops_of (noted (c ∷ boots) item)) none))

none_struck : (boots : List Boot) (stop : ℕ) → stops_of (struck boots stop) ≡ [] → stops_of boots ≡ []
none_struck [] stop none = refl
none_struck (b ∷ []) stop none = absurd (cc none)
none_struck (b ∷ c ∷ boots) stop none =
    let own = option_map_or (λ stop. stop ∷ []) b.stop [] in
    both_none own (stops_of (c ∷ boots)) (no_stop_left own (stops_of (struck (c ∷ boots) stop)) none) (none_struck (c ∷ boots) stop (no_stop_right own (stops_of (struck (c ∷ boots) stop)) none))

none_booted : (boots : List Boot) → stops_of (booted boots) ≡ [] → stops_of boots ≡ []
none_booted [] none = refl
none_booted (b ∷ boots) none =
    let own = option_map_or (λ stop. stop ∷ []) b.stop [] in
    both_none own (stops_of boots) (no_stop_left own (stops_of (booted boots)) none) (none_booted boots (no_stop_right own (stops_of (booted boots)) none))

module _ (z : Setting) (w : WorldView) (c : ℕ) where
  abbrev before : WorldView → Type 0
  before later = stops_of later.run.boots ≡ [] → stops_of w.run.boots ≡ []

  same_boots : (later : WorldView) → later.run.boots ≡ w.run.boots → before later
  same_boots later same none = ap stops_of (sym same) ∙ none

  noted_boots : (later : WorldView) (item : Item) → later.run.boots ≡ noted w.run.boots item → before later
  noted_boots later item is none = none_noted w.run.boots item (ap stops_of (sym is) ∙ none)

  struck_boots : (later : WorldView) (boots : List Boot) (stop : ℕ) → later.run.boots ≡ struck boots stop → stops_of later.run.boots ≡ [] → stops_of boots ≡ []
  struck_boots later boots stop is none = none_struck boots stop (ap stops_of (sym is) ∙ none)

  none_committed : (later : WorldView) → Commits z w c later → before later
  none_committed later l = noted_boots later l.asks.item (ap (λ y. y.run.boots) l.now)

  none_by : (did : Did) (later : WorldView) → Steps z w c did later → before later
  none_by Skipped later l = same_boots later (ap (λ y. y.run.boots) l.now)
  none_by (Answered reply) later (inl l) = same_boots later (ap (λ y. y.run.boots) l.now)
  none_by (Answered reply) later (inr (inl l)) = same_boots later (ap (λ y. y.run.boots) l.now)
  none_by (Answered reply) later (inr (inr l)) = same_boots later (ap (λ y. y.run.boots) l.now)
  none_by Lost later l = same_boots later (ap (λ y. y.run.boots) l.now)
  none_by Booted later l = λ none. none_booted w.run.boots (ap stops_of (sym (ap (λ (y : WorldView). y.run.boots) l.now)) ∙ none)
  none_by Struck later (inl l) = struck_boots later w.run.boots _ (ap (λ y. y.run.boots) l.now)
  none_by Struck later (inr (inl l)) = λ none. none_noted w.run.boots l.item (struck_boots later (noted w.run.boots l.item) _ (ap (λ y. y.run.boots) l.now) none)
  none_by Struck later (inr (inr (inl l))) = λ none. none_noted w.run.boots l.asks.item (struck_boots later (noted w.run.boots l.asks.item) _ (ap (λ y. y.run.boots) l.now) none)
  none_by Struck later (inr (inr (inr l))) = λ none. none_committed l.between l.commits (struck_boots later l.between.run.boots _ (ap (λ y. y.run.boots) l.now) none)
  none_by Replayed later l = noted_boots later l.item (ap (λ y. y.run.boots) l.now)
  none_by Loaded later l = noted_boots later l.item (ap (λ y. y.run.boots) l.now)
  none_by Waits later l = noted_boots later l.asks.item (ap (λ y. y.run.boots) l.now)
  none_by Served later (inl l) = λ none. none_committed l.between l.commits (ap stops_of (sym (ap (λ (y : WorldView). y.run.boots) l.now)) ∙ none)
  none_by Served later (inr l) = noted_boots later l.asks.item (ap (λ y. y.run.boots) l.now)

  -- a member that wasn't stopped by a step wasn't stopped before
  pub none_before : (did : Did) (now : WorldView) → HasStepped z w c did now → struck_in now.run ≡ [] → struck_in w.run ≡ []
  none_before did now stepped none = none_by did stepped.later stepped.steps (ap (λ (y : WorldView). struck_in y.run) (sym stepped.counted) ∙ none)

-- ---- what a step does

-- an entry of the client's call is made, which wakes who waited for it, and the client's seat is in a phase then, with a reply
pub record EntersAs (z : Setting) (w : WorldView) (c : ℕ) (p : Phase) (reply kept : Reply) (later : WorldView) : Type 0 where
  pub history : later.history ≡ w.history ++ record { call = (seat_of w c).call; reply = reply } ∷ []
  pub seats : later.seats ≡ slice_set (woken z.iface.facts w c reply) (c - 1) (seat_after z.iface.facts w c reply p kept)

-- no entry is made, and the client's seat alone changes
pub record Reseats (w : WorldView) (c : ℕ) (new : Seat) (later : WorldView) : Type 0 where
  pub history : later.history ≡ w.history
  pub seats : later.seats ≡ slice_set w.seats (c - 1) new

module _ (z : Setting) (w : WorldView) (c : ℕ) (did : Did) (later : WorldView) where
  abbrev asked_of : Option Code → Type 0
  asked_of refusal = guard z.iface (object_of z.iface.facts w.history) (seat_of w c).call ≡ refusal

  abbrev told_of : Option Reply → Type 0
  told_of reply = z.ask (object_of z.iface.facts w.history) (seat_of w c).call ≡ reply

  -- the client waits, and nothing changes
  pub record StaysBlocked : Type 0 where
    pub phase : (seat_of w c).phase ≡ Blocked
    pub history : later.history ≡ w.history
    pub seats : later.seats ≡ w.seats
    pub quiet : handed_by did ≡ None

  -- the reply that it has a receipt for is handed over
  pub record TakesReceipt : Type 0 where
    pub phase : (seat_of w c).phase ≡ Receipted
    pub reseats : Reseats w c (record (seat_of w c) { phase = Idle; reply = no_reply }) later
    pub id : ℕ
    pub gives : handed_by did ≡ Some id

  -- the reply that it holds is committed and handed over
  pub record TakesHeld : Type 0 where
    pub phase : (seat_of w c).phase ≡ Held
    pub enters : EntersAs z w c Idle (seat_of w c).reply no_reply later
    pub id : ℕ
    pub gives : handed_by did ≡ Some id

  -- the guard refuses its call
  pub record IsRefused : Type 0 where
    pub phase : (seat_of w c).phase ≡ Asked
    pub code : Code
    pub refuses : asked_of (Some code)
    pub enters : EntersAs z w c Idle (Refused code) no_reply later
    pub id : ℕ
    pub gives : handed_by did ≡ Some id

  -- its call has to wait
  pub record HasToWait : Type 0 where
    pub phase : (seat_of w c).phase ≡ Asked
    pub passes : asked_of None
    pub none : told_of None
    pub reseats : Reseats w c (record (seat_of w c) { phase = Blocked }) later
    pub quiet : handed_by did ≡ None

  -- its call is visible, and is answered and committed
  pub record IsCommitted : Type 0 where
    pub phase : (seat_of w c).phase ≡ Asked
    pub passes : asked_of None
    pub reply : Reply
    pub answers : told_of (Some reply)
    pub visible : is_visible z.iface.facts (seat_of w c).call.fun ≡ true
    pub enters : EntersAs z w c Receipted reply reply later
    pub quiet : handed_by did ≡ None

  -- its call isn't visible, and its reply is held
  pub record IsHeld : Type 0 where
    pub phase : (seat_of w c).phase ≡ Asked
    pub passes : asked_of None
    pub reply : Reply
    pub answers : told_of (Some reply)
    pub hidden : is_visible z.iface.facts (seat_of w c).call.fun ≡ false
    pub boot : ℕ
    pub reseats : Reseats w c (record (seat_of w c) { phase = Held; boot = boot; reply = reply }) later
    pub quiet : handed_by did ≡ None

  -- what a client's turn does that has a call under way
  abbrev pub TurnsAs : Type 0
  TurnsAs = StaysBlocked ⊎ TakesReceipt ⊎ TakesHeld ⊎ IsRefused ⊎ HasToWait ⊎ IsCommitted ⊎ IsHeld

-- a step in which the service stopped for the first time: nothing was answered in it, or a call was committed as in a turn
pub record StopsFirst (z : Setting) (w : WorldView) (c : ℕ) (did : Did) (now : WorldView) : Type 0 where
  pub items : List Item
  pub stop : ℕ
  pub one : now.run.boots ≡ record { items = items; stop = Some stop } ∷ []
  pub down : now.running ≡ None
  pub hold : HoldAll z.iface.facts now.seats
  pub done : ((now.history ≡ w.history) × (now.seats ≡ w.seats)) ⊎ TurnsAs z w c did now

-- ---- no service stops

-- what the service answers a call that the guard lets pass
asked : (z : Setting) (o : Object) (call : Call) (reply : Option Reply) → guard z.iface o call ≡ None → answer z.iface z.ask o call ≡ reply → z.ask o call ≡ reply
asked z o call reply passes answers = sym (ap (λ g. refused_or g (z.ask o call)) passes) ∙ answers

module _ (z : Setting) (w : WorldView) (c : ℕ) (first : 1 ≤ c) (last : c ≤ length w.seats) (is : KeepsMember z w) (so : RecoversSoFar z w) (a : NeverStruck z w) (busy : is_free_phase (seat_of w c).phase ≡ false) where
  abbrev s : Seat
  s = seat_of w c

  abbrev facts : Facts
  facts = z.iface.facts

  abbrev entry_by : Reply → Entry
  entry_by reply = record { call = s.call; reply = reply }

  abbrev test : Reply → Call → Bool
  test reply = wakes_seat facts (object_of facts w.history).rows s.call reply

  caller : IsCaller facts is.script w.history c s
  caller = is.playing.callers.each c first last

  its : is_offered s.phase ≡ true → s.call.client ≡ c
  its = call_is_own facts is.script w.history c s caller

  number : is_offered s.phase ≡ true → s.call.seq ≡ s.seq + 1
  number = call_is_next facts is.script w.history c s caller

  offers_by : (p : Phase) → s.phase ≡ p → is_offered p ≡ true → is_offered s.phase ≡ true
  offers_by p at offers = ap is_offered at ∙ offers

  within_woken : (reply : Reply) → c ≤ length (woken facts w c reply)
  within_woken reply = omega (arith, last, length_map (woken_seat (test reply)) w.seats)

  -- ---- what a member keeps that isn't stopped

  keeps_reseated : (later : WorldView) (new : Seat) (items : List Item) → later.history ≡ w.history → later.seats ≡ slice_set w.seats (c - 1) new → later.run.boots ≡ record { items = items; stop = None } ∷ [] → IsSome later.running
      → IsAllThere facts w.history items → HoldsSo facts new → HeldFirst new → NeverStruck z later
  keeps_reseated later new items history seats one up there holds held = record {
    hold = subst (HoldAll facts) (sym seats) (each_set (HoldsSo facts) w.seats c new first last a.hold holds);
    items = items;
    one = one;
    up = up;
    all_there = subst (λ h. IsAllThere facts h items) (sym history) there;
    held = subst (λ l. (client : ℕ) → 1 ≤ client → HeldFirst (seat_in l client)) (sym seats) (each_set HeldFirst w.seats c new first last a.held held);
  }

  keeps_entered : (later : WorldView) (reply kept : Reply) (p : Phase) (items : List Item) → EntersAs z w c p reply kept later → later.run.boots ≡ record { items = items; stop = None } ∷ [] → IsSome later.running
      → IsAllThere facts (w.history ++ entry_by reply ∷ []) items → HoldsSo facts (seat_after facts w c reply p kept) → HeldFirst (seat_after facts w c reply p kept) → NeverStruck z later
  keeps_entered later reply kept p items enters one up there holds held =
      let new = seat_after facts w c reply p kept in
      record {
        hold = subst (HoldAll facts) (sym enters.seats)
            (each_set (HoldsSo facts) (woken facts w c reply) c new first (within_woken reply) (each_woken (HoldsSo facts) (test reply) w.seats (asked_holds facts) a.hold) holds);
        items = items;
        one = one;
        up = up;
        all_there = subst (λ h. IsAllThere facts h items) (sym enters.history) there;
        held = subst (λ l. (client : ℕ) → 1 ≤ client → HeldFirst (seat_in l client)) (sym enters.seats)
            (each_set HeldFirst (woken facts w c reply) c new first (within_woken reply) (each_woken HeldFirst (test reply) w.seats asked_first a.held) held);
      }

  noted_is : (item : Item) → noted w.run.boots item ≡ record { items = a.items ++ item ∷ []; stop = None } ∷ []
  noted_is item = ap (λ l. noted l item) a.one

  has : HaveItems a.items w.history
  has = have_items facts w.history a.items w.run.points w.history
      (subst (λ (r : Run). Each (HasItem facts w.history r) w.history) (ap (λ l. record { boots = l; points = w.run.points }) a.one) so.recovering.served.items)

  down_never : w.running ≡ None → ⊥
  down_never none = cc (sym a.up ∙ ap is_some none)

  -- ---- the lines

  -- what a step comes to that no stop struck
  abbrev Comes : Did → WorldView → Type 0
  Comes did later = NeverStruck z later × TurnsAs z w c did later

  skips : (later : WorldView) → Skips z w c later → Comes Skipped later
  skips later l = subst (Comes Skipped) (sym l.now) (a, inl (record { phase = by l.phase; history = refl; seats = refl; quiet = refl }))
    where
      by : (s.phase ≡ Idle) ⊎ (s.phase ≡ Blocked) ⊎ (s.phase ≡ Left) → s.phase ≡ Blocked
      by (inl idle) = absurd (let free : is_free_phase s.phase ≡ true = ap is_free_phase idle in cc (free, busy))
      by (inr (inl waits)) = waits
      by (inr (inr left)) = absurd (let free : is_free_phase s.phase ≡ true = ap is_free_phase left in cc (free, busy))

  hands_over : (reply : Reply) (later : WorldView) → HandsOver z w c reply later → Comes (Answered reply) later
  hands_over reply later l =
      let new : Seat = record s { phase = Idle; reply = no_reply } in
      let seats : later.seats ≡ slice_set w.seats (c - 1) new = ap (λ y. y.seats) l.now in
      let history : later.history ≡ w.history = ap (λ y. y.history) l.now in (
        keeps_reseated later new a.items history seats (ap (λ (y : WorldView). y.run.boots) l.now ∙ a.one) (ap (λ (y : WorldView). is_some y.running) l.now ∙ a.up) a.all_there
            (plain_holds facts new (λ held. cc held) (λ receipted. cc receipted)) (λ held. absurd (cc held)),
        inr (inl (record { phase = l.phase; reseats = record { history = history; seats = seats }; id = desc_of reply; gives = refl })),
      )

  -- a call is entered, whose client is handed its reply
  entered : (reply : Reply) (later : WorldView) → is_offered s.phase ≡ true → later ≡ answered_to (committed facts w (entry_by reply)) (entry_by reply) → IsAllThere facts (w.history ++ entry_by reply ∷ []) a.items
      → NeverStruck z later × EntersAs z w c Idle reply no_reply later
  entered reply later offers now there =
      let new = seat_after facts w c reply Idle no_reply in
      let enters : EntersAs z w c Idle reply no_reply later = record { history = ap (λ y. y.history) now; seats = ap (λ y. y.seats) now ∙ answered_seats facts w c reply (its offers) } in (
        keeps_entered later reply no_reply Idle a.items enters (ap (λ (y : WorldView). y.run.boots) now ∙ a.one) (ap (λ (y : WorldView). is_some y.running) now ∙ a.up) there
            (plain_holds facts new (λ held. cc held) (λ receipted. cc receipted)) (λ held. absurd (cc held)),
        enters,
      )

  returns : (reply : Reply) (later : WorldView) → Returns z w c reply later → Comes (Answered reply) later
  returns reply later l =
      let both = entered s.reply later (offers_by Held l.phase refl) (subst (λ r. later ≡ answered_to (committed facts w (entry_by r)) (entry_by r)) l.its l.now)
      (there_hidden facts w.history s.call s.reply a.items a.all_there ((a.hold c first).hidden l.phase)) in
      (both.0, inr (inr (inl (record { phase = l.phase; enters = both.1; id = desc_of reply; gives = refl }))))

  refuses : (reply : Reply) (later : WorldView) → Refuses z w c reply later → Comes (Answered reply) later
  refuses reply later l =
      let both = entered (Refused l.code) later (offers_by Asked l.phase refl) (subst (λ r. later ≡ answered_to (committed facts w (entry_by r)) (entry_by r)) l.its l.now)
      (there_refused facts w.history s.call (Refused l.code) a.items a.all_there a.items (λ test any. any) (λ good same. cc same)) in
      (both.0, inr (inr (inr (inl (record { phase = l.phase; code = l.code; refuses = l.guarded; enters = both.1; id = desc_of reply; gives = refl })))))

  loses : (later : WorldView) → Loses z w c later → ⊥
  loses later l = by l.gone
    where
      by : (w.running ≡ None) ⊎ (s.boot ≢ boot_number w) → ⊥
      by (inl none) = down_never none
      by (inr other) = other (a.held c first l.phase ∙ sym (ap length a.one))

  replays : (later : WorldView) → Replays z w c later → ⊥
  replays later l =
      let next : IsNextItem (stubs_of z) w.history (unanswered w) (last_place [] a.items l.item) = subst (λ b. IsNextItem (stubs_of z) w.history (unanswered w) (place_after [] b l.item)) a.one l.noted.next in
      none_walked facts (stubs_of z) w.history a.items l.item l.id l.k c a.all_there has l.tag next.settled.walk

  loads : (later : WorldView) → Loads z w c later → ⊥
  loads later l =
      let next : IsNextItem (stubs_of z) w.history (unanswered w) (last_place [] a.items l.item) = subst (λ b. IsNextItem (stubs_of z) w.history (unanswered w) (place_after [] b l.item)) a.one l.noted.next in
      none_loaded (stubs_of z) w.history (unanswered w) a.items l.item l.key c a.all_there has l.tag next.settled.demand

  waits : (later : WorldView) → WaitsNow z w c later → Comes Waits later
  waits later l =
      let new : Seat = record s { phase = Blocked } in
      let seats : later.seats ≡ slice_set w.seats (c - 1) new = ap (λ y. y.seats) l.now in
      let history : later.history ≡ w.history = ap (λ y. y.history) l.now in
      let passes = l.asks.reaches.uses.let_in.passes in (
        keeps_reseated later new (a.items ++ l.asks.item ∷ []) history seats (ap (λ (y : WorldView). y.run.boots) l.now ∙ noted_is l.asks.item) (ap (λ (y : WorldView). is_some y.running) l.now ∙ a.up)
            (there_noted facts w.history a.items l.asks.item a.all_there) (plain_holds facts new (λ held. cc held) (λ receipted. cc receipted)) (λ held. absurd (cc held)),
        inr (inr (inr (inr (inl (record {
          phase = l.asks.reaches.uses.let_in.phase;
          passes = passes;
          none = asked z (object_of facts w.history) s.call None passes l.none;
          reseats = record { history = history; seats = seats };
          quiet = refl;
        }))))),
      )

  holds : (later : WorldView) → Holds z w c later → Comes Served later
  holds later l =
      let new : Seat = record s { phase = Held; boot = boot_number w; reply = l.reply } in
      let seats : later.seats ≡ slice_set w.seats (c - 1) new = ap (λ y. y.seats) l.now in
      let history : later.history ≡ w.history = ap (λ y. y.history) l.now in
      let passes = l.asks.reaches.uses.let_in.passes in (
        keeps_reseated later new (a.items ++ l.asks.item ∷ []) history seats (ap (λ (y : WorldView). y.run.boots) l.now ∙ noted_is l.asks.item) (ap (λ (y : WorldView). is_some y.running) l.now)
            (there_noted facts w.history a.items l.asks.item a.all_there) (record { hidden = λ held. l.hidden; receipt = λ receipted. absurd (cc receipted) }) (λ held. ap length a.one),
        inr (inr (inr (inr (inr (inr (record {
          phase = l.asks.reaches.uses.let_in.phase;
          passes = passes;
          reply = l.reply;
          answers = asked z (object_of facts w.history) s.call (Some l.reply) passes l.answers;
          hidden = l.hidden;
          boot = boot_number w;
          reseats = record { history = history; seats = seats };
          quiet = refl;
        })))))),
      )

  -- ---- a commit

  module _ (between : WorldView) (l : Commits z w c between) where
    offering : is_offered s.phase ≡ true
    offering = offers_by Asked l.asks.reaches.uses.let_in.phase refl

    passing : guard z.iface (object_of facts w.history) s.call ≡ None
    passing = l.asks.reaches.uses.let_in.passes

    answering : z.ask (object_of facts w.history) s.call ≡ Some l.reply
    answering = asked z (object_of facts w.history) s.call (Some l.reply) passing l.answers

    abbrev new_seat : Seat
    new_seat = seat_after facts w c l.reply Receipted l.reply

    history_now : between.history ≡ w.history ++ entry_by l.reply ∷ []
    history_now = ap (λ (y : WorldView). y.history) l.now

    boots_now : between.run.boots ≡ record { items = a.items ++ l.asks.item ∷ []; stop = None } ∷ []
    boots_now = ap (λ (y : WorldView). y.run.boots) l.now ∙ noted_is l.asks.item

    -- all is there after it, where each entry has its item
    there_then : Each (HasItem facts between.history between.run) between.history → IsAllThere facts (w.history ++ entry_by l.reply ∷ []) (a.items ++ l.asks.item ∷ [])
    there_then served =
        there_committed (stubs_of z) w.history a.items a.all_there has s.call l.reply l.asks.item next_id
        (l.asks.tag ∙ ap (λ n. Client n s.call.seq) (sym (its offering))) l.asks.shown l.outcome new_number (unanswered between)
        (subst (λ b. IsNextItem (stubs_of z) (w.history ++ entry_by l.reply ∷ []) (unanswered between) (place_after [] b l.asks.item)) a.one l.noted.next) between.run.points
        (subst (λ h. Each (HasItem facts h (one_boot (a.items ++ l.asks.item ∷ []) between.run.points)) h) history_now
        (subst (λ (r : Run). Each (HasItem facts between.history r) between.history) (ap (λ b. record { boots = b; points = between.run.points }) boots_now) served))
      where
        next_id : (good : Good) → l.reply ≡ Ok good → (fun_at facts.funs s.call.fun).creation ≡ true → 1 ≤ good.desc
        next_id good ok makes = omega (arith, so.set.law.keeps.next (object_of facts w.history) s.call good (answering ∙ ap (λ r. Some r) ok) makes)

        counted : s.call.seq ≡ length (calls_of w.history c) + 1
        counted = number offering ∙ ap (λ n. n + 1) caller.count

        new_number : NoneHas s.call.client s.call.seq w.history
        new_number = subst (λ n. NoneHas n s.call.seq w.history) (sym (its offering)) (subst (λ n. NoneHas c n w.history) (sym counted)
            (next_is_new facts w.history c (script_calls is.script c) caller.made))

    commits : (later : WorldView) → later.history ≡ between.history → later.seats ≡ between.seats → later.run.boots ≡ between.run.boots → IsSome later.running
        → Each (HasItem facts between.history between.run) between.history → Comes Served later
    commits later history seats boots up served =
        let enters : EntersAs z w c Receipted l.reply l.reply later
        = record { history = history ∙ history_now; seats = seats ∙ ap (λ (y : WorldView). y.seats) l.now ∙ given_seats facts w c l.reply (its offering) } in (
          keeps_entered later l.reply l.reply Receipted (a.items ++ l.asks.item ∷ []) enters (boots ∙ boots_now) up (there_then served)
              (record { hidden = λ held. absurd (cc held); receipt = λ receipted. omega (arith, number offering) }) (λ held. absurd (cc held)),
          inr (inr (inr (inr (inr (inl (record {
            phase = l.asks.reaches.uses.let_in.phase;
            passes = passing;
            reply = l.reply;
            answers = answering;
            visible = l.visible;
            enters = enters;
            quiet = refl;
          })))))),
        )

  -- ---- a step

  struck_so : (boots : List Boot) (items : List Item) (stop : ℕ) (later : WorldView) → later.run.boots ≡ struck boots stop → boots ≡ record { items = items; stop = None } ∷ [] → stops_of later.run.boots ≡ [] → ⊥
  struck_so boots items stop later is one none = let some : stop ∷ [] ≡ [] = sym (ap stops_of (is ∙ ap (λ l. struck l stop) one)) ∙ none in cc some

  comes : (did : Did) (later : WorldView) → Steps z w c did later → stops_of later.run.boots ≡ [] → (did ≡ Served → Each (HasItem facts later.history later.run) later.history) → Comes did later
  comes Skipped later l none served = skips later l
  comes (Answered reply) later (inl l) none served = hands_over reply later l
  comes (Answered reply) later (inr (inl l)) none served = returns reply later l
  comes (Answered reply) later (inr (inr l)) none served = refuses reply later l
  comes Lost later l none served = absurd (loses later l)
  comes Booted later l none served = absurd (down_never l.failed)
  comes Struck later (inl l) none served = absurd (struck_so w.run.boots a.items _ later (ap (λ y. y.run.boots) l.now) a.one none)
  comes Struck later (inr (inl l)) none served = absurd (struck_so (noted w.run.boots l.item) (a.items ++ l.item ∷ []) _ later (ap (λ y. y.run.boots) l.now) (noted_is l.item) none)
  comes Struck later (inr (inr (inl l))) none served = absurd (struck_so (noted w.run.boots l.asks.item) (a.items ++ l.asks.item ∷ []) _ later (ap (λ y. y.run.boots) l.now) (noted_is l.asks.item) none)
  comes Struck later (inr (inr (inr l))) none served =
      absurd (struck_so l.between.run.boots (a.items ++ l.commits.asks.item ∷ []) _ later (ap (λ y. y.run.boots) l.now) (boots_now l.between l.commits) none)
  comes Replayed later l none served = absurd (replays later l)
  comes Loaded later l none served = absurd (loads later l)
  comes Waits later l none served = waits later l
  comes Served later (inl l) none served =
      commits l.between l.commits later (ap (λ y. y.history) l.now) (ap (λ y. y.seats) l.now) (ap (λ y. y.run.boots) l.now) (ap (λ y. is_some y.running) l.now ∙ ap (λ (y : WorldView). is_some y.running) l.commits.now)
      (subst (λ (y : WorldView). Each (HasItem facts y.history y.run) y.history) l.now (served refl))
  comes Served later (inr l) none served = holds later l

  turn_counted : (did : Did) (later : WorldView) → TurnsAs z w c did later → TurnsAs z w c did (happened later)
  turn_counted did later t = by t
    where
      by : TurnsAs z w c did later → TurnsAs z w c did (happened later)
      by (inl t) = inl (record { phase = t.phase; history = t.history; seats = t.seats; quiet = t.quiet })
      by (inr (inl t)) = inr (inl (record { phase = t.phase; reseats = record { history = t.reseats.history; seats = t.reseats.seats }; id = t.id; gives = t.gives }))
      by (inr (inr (inl t))) = inr (inr (inl (record { phase = t.phase; enters = record { history = t.enters.history; seats = t.enters.seats }; id = t.id; gives = t.gives })))
      by (inr (inr (inr (inl t)))) =
          inr (inr (inr (inl (record { phase = t.phase; code = t.code; refuses = t.refuses; enters = record { history = t.enters.history; seats = t.enters.seats }; id = t.id; gives = t.gives }))))
      by (inr (inr (inr (inr (inl t))))) =
          inr (inr (inr (inr (inl (record { phase = t.phase; passes = t.passes; none = t.none; reseats = record { history = t.reseats.history; seats = t.reseats.seats }; quiet = t.quiet })))))
      by (inr (inr (inr (inr (inr (inl t)))))) = inr (inr (inr (inr (inr (inl (record {
        phase = t.phase;
        passes = t.passes;
        reply = t.reply;
        answers = t.answers;
        visible = t.visible;
        enters = record { history = t.enters.history; seats = t.enters.seats };
        quiet = t.quiet;
      }))))))
      by (inr (inr (inr (inr (inr (inr t)))))) = inr (inr (inr (inr (inr (inr (record {
        phase = t.phase;
        passes = t.passes;
        reply = t.reply;
        answers = t.answers;
        hidden = t.hidden;
        boot = t.boot;
        reseats = record { history = t.reseats.history; seats = t.reseats.seats };
        quiet = t.quiet;
      }))))))

  counted_too : (did : Did) (later : WorldView) → Comes did later → Comes did (happened later)
  counted_too did later (n, t) = (record { hold = n.hold; items = n.items; one = n.one; up = n.up; all_there = n.all_there; held = n.held }, turn_counted did later t)

  -- a step that no stop struck is a turn of the play without stops
  pub unstopped : (did : Did) (now : WorldView) → HasStepped z w c did now → RecoversSoFar z now → struck_in now.run ≡ [] → NeverStruck z now × TurnsAs z w c did now
  unstopped did now stepped behind none =
      subst (Comes did) (sym stepped.counted) (counted_too did stepped.later (comes did stepped.later stepped.steps (ap (λ (y : WorldView). struck_in y.run) (sym stepped.counted) ∙ none)
      (λ is_served. subst (λ (y : WorldView). Each (HasItem facts y.history y.run) y.history) stepped.counted behind.recovering.served.items)))

  -- ---- the service stops

  abbrev Ends : Did → WorldView → Type 0
  Ends did later = (stops_of later.run.boots ≡ []) ⊎ StopsFirst z w c did later

  -- it stops before anything is answered
  stops_before : (later : WorldView) (boots : List Boot) (items : List Item) (stop : ℕ) → later.run.boots ≡ struck boots stop → boots ≡ record { items = items; stop = None } ∷ [] → later.running ≡ None
      → later.history ≡ w.history → later.seats ≡ w.seats → Ends Struck later
  stops_before later boots items stop is one down history seats = inr (record {
    items = items;
    stop = stop;
    one = is ∙ ap (λ l. struck l stop) one;
    down = down;
    hold = subst (HoldAll facts) (sym seats) a.hold;
    done = inl (history, seats);
  })

  -- it stops right after a commit
  stops_after : (later : WorldView) → StopsAfter z w c later → Ends Struck later
  stops_after later l =
      let k = l.commits in
      let offers : is_offered s.phase ≡ true = offering l.between k in
      let new = seat_after facts w c k.reply Receipted k.reply in
      let enters : EntersAs z w c Receipted k.reply k.reply later = record {
        history = ap (λ (y : WorldView). y.history) l.now ∙ history_now l.between k;
        seats = ap (λ (y : WorldView). y.seats) l.now ∙ ap (λ (y : WorldView). y.seats) k.now ∙ given_seats facts w c k.reply (its offers);
      } in
      inr (record {
        items = a.items ++ k.asks.item ∷ [];
        stop = asked_after l.between.run.points 1;
        one = ap (λ (y : WorldView). y.run.boots) l.now ∙ ap (λ b. struck b (asked_after l.between.run.points 1)) (boots_now l.between k);
        down = ap (λ (y : WorldView). y.running) l.now;
        hold = subst (HoldAll facts) (sym enters.seats)
            (each_set (HoldsSo facts) (woken facts w c k.reply) c new first (within_woken k.reply) (each_woken (HoldsSo facts) (test k.reply) w.seats (asked_holds facts) a.hold)
            (record { hidden = λ held. absurd (cc held); receipt = λ receipted. omega (arith, number offers) }));
        done = inr (inr (inr (inr (inr (inr (inl (record {
          phase = k.asks.reaches.uses.let_in.phase;
          passes = passing l.between k;
          reply = k.reply;
          answers = answering l.between k;
          visible = k.visible;
          enters = enters;
          quiet = refl;
        })))))));
      })

  -- no stop struck it
  goes_up : (did : Did) (later : WorldView) (items : List Item) → later.run.boots ≡ record { items = items; stop = None } ∷ [] → Ends did later
  goes_up did later items one = inl (ap stops_of one)

  ends_by : (did : Did) (later : WorldView) → Steps z w c did later → Ends did later
  ends_by Skipped later l = goes_up Skipped later a.items (ap (λ (y : WorldView). y.run.boots) l.now ∙ a.one)
  ends_by (Answered reply) later (inl l) = goes_up (Answered reply) later a.items (ap (λ (y : WorldView). y.run.boots) l.now ∙ a.one)
  ends_by (Answered reply) later (inr (inl l)) = goes_up (Answered reply) later a.items (ap (λ (y : WorldView). y.run.boots) l.now ∙ a.one)
  ends_by (Answered reply) later (inr (inr l)) = goes_up (Answered reply) later a.items (ap (λ (y : WorldView). y.run.boots) l.now ∙ a.one)
  ends_by Lost later l = goes_up Lost later a.items (ap (λ (y : WorldView). y.run.boots) l.now ∙ a.one)
  ends_by Booted later l = absurd (down_never l.failed)
  ends_by Struck later (inl l) = stops_before later w.run.boots a.items _ (ap (λ y. y.run.boots) l.now) a.one (ap (λ y. y.running) l.now) (ap (λ y. y.history) l.now) (ap (λ y. y.seats) l.now)
  ends_by Struck later (inr (inl l)) =
      stops_before later (noted w.run.boots l.item) (a.items ++ l.item ∷ []) _ (ap (λ y. y.run.boots) l.now) (noted_is l.item) (ap (λ y. y.running) l.now) (ap (λ y. y.history) l.now) (ap (λ y. y.seats) l.now)
  ends_by Struck later (inr (inr (inl l))) =
      stops_before later (noted w.run.boots l.asks.item) (a.items ++ l.asks.item ∷ []) _ (ap (λ y. y.run.boots) l.now) (noted_is l.asks.item) (ap (λ y. y.running) l.now) (ap (λ y. y.history) l.now)
      (ap (λ y. y.seats) l.now)
  ends_by Struck later (inr (inr (inr l))) = stops_after later l
  ends_by Replayed later l = goes_up Replayed later (a.items ++ l.item ∷ []) (ap (λ (y : WorldView). y.run.boots) l.now ∙ noted_is l.item)
  ends_by Loaded later l = goes_up Loaded later (a.items ++ l.item ∷ []) (ap (λ (y : WorldView). y.run.boots) l.now ∙ noted_is l.item)
  ends_by Waits later l = goes_up Waits later (a.items ++ l.asks.item ∷ []) (ap (λ (y : WorldView). y.run.boots) l.now ∙ noted_is l.asks.item)
  ends_by Served later (inl l) = goes_up Served later (a.items ++ l.commits.asks.item ∷ []) (ap (λ (y : WorldView). y.run.boots) l.now ∙ boots_now l.between l.commits)
  ends_by Served later (inr l) = goes_up Served later (a.items ++ l.asks.item ∷ []) (ap (λ (y : WorldView). y.run.boots) l.now ∙ noted_is l.asks.item)

  ends_counted : (did : Did) (later : WorldView) → Ends did later → Ends did (happened later)
  ends_counted did later (inl none) = inl none
  ends_counted did later (inr f) = inr (record { items = f.items; stop = f.stop; one = f.one; down = f.down; hold = f.hold; done = by f.done })
    where
      by : ((later.history ≡ w.history) × (later.seats ≡ w.seats)) ⊎ TurnsAs z w c did later → ((later.history ≡ w.history) × (later.seats ≡ w.seats)) ⊎ TurnsAs z w c did (happened later)
      by (inl same) = inl same
      by (inr t) = inr (turn_counted did later t)

  -- a step strikes the service nowhere, or for the first time
  pub stops_or_not : (did : Did) (now : WorldView) → HasStepped z w c did now → (struck_in now.run ≡ []) ⊎ StopsFirst z w c did now
  stops_or_not did now stepped = subst (Ends did) (sym stepped.counted) (ends_counted did stepped.later (ends_by did stepped.later stepped.steps))

-- ---- changes that no call is done in

-- an event is counted, or a step wanted memory
pub never_wanted : (z : Setting) (w now : WorldView) → now.run.boots ≡ w.run.boots → now.running ≡ w.running → now.history ≡ w.history → now.seats ≡ w.seats → NeverStruck z w → NeverStruck z now
never_wanted z w now boots running history seats a = record {
  hold = subst (HoldAll z.iface.facts) (sym seats) a.hold;
  items = a.items;
  one = boots ∙ a.one;
  up = ap is_some running ∙ a.up;
  all_there = subst (λ h. IsAllThere z.iface.facts h a.items) (sym history) a.all_there;
  held = subst (λ l. (client : ℕ) → 1 ≤ client → HeldFirst (seat_in l client)) (sym seats) a.held;
}

-- a client offers a call
pub never_offered : (z : Setting) (w : WorldView) (c : ℕ) (call : Call) → 1 ≤ c → c ≤ length w.seats → NeverStruck z w → NeverStruck z (happened (offered w c call))
never_offered z w c call first last a =
    let new : Seat = record (seat_of w c) { phase = Asked; call = call } in
    record {
      hold = each_set (HoldsSo z.iface.facts) w.seats c new first last a.hold (plain_holds z.iface.facts new (λ held. cc held) (λ receipted. cc receipted));
      items = a.items;
      one = a.one;
      up = a.up;
      all_there = a.all_there;
      held = each_set HeldFirst w.seats c new first last a.held (λ held. absurd (cc held));
    }

-- nothing was done yet
pub never_new : (z : Setting) (w : WorldView) (n : ℕ) → w ≡ new_world (replicate n no_seat) → NeverStruck z w
never_new z w n new = subst (NeverStruck z) (sym new) (record {
  hold = λ client from. subst (HoldsSo z.iface.facts) (sym (seat_of_new n client)) (plain_holds z.iface.facts no_seat (λ held. cc held) (λ receipted. cc receipted));
  items = [];
  one = refl;
  up = refl;
  all_there = nothing_there z.iface.facts;
  held = λ client from. subst HeldFirst (sym (seat_of_new n client)) (λ held. absurd (cc held));
})
