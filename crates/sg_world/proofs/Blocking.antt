-- Who waits was told so in the last boot, and no entry's item woke it since, behind each event of a world.
use Rattle.std.proofs.Common.{◌≡◌, ◌≢◌, ℕ, ◌-◌, ◌≤◌, Bool, true, false, cond, ◌&&◌, ◌||◌, List, [], ◌∷◌, ◌++◌, Some, length, map, refl, sym, ◌∙◌, ap, subst, inl, inr, slice_set}
use Rattle.sg_facts.specs.sg_base.Stops.{asked_after}
use Rattle.sg_facts.specs.sg_base.declared.call.Call.{Call}
use Rattle.sg_facts.specs.sg_base.declared.reply.Code.{Code}
use Rattle.sg_facts.specs.sg_base.declared.reply.Reply.{Reply}
use Rattle.sg_facts.specs.sg_base.declared.reply.Reply.TheVariants.{Refused}
use Rattle.sg_facts.specs.declared.entry.Entry.{Entry}
use Rattle.sg_facts.specs.declared.outcome.Outcome.TheVariants.{Blocks}
use Rattle.sg_facts.specs.declared.trace.Item.{Item}
use Rattle.sg_facts.specs.declared.trace.Tag.TheVariants.{Client}
use Rattle.sg_facts.specs.Facts.{Facts, fun_at, is_visible}
use Rattle.sg_facts.specs.Guard.{guard}
use Rattle.sg_facts.specs.Object.{object_of}
use Rattle.sg_facts.specs.Trace.{Boot}
use Rattle.sg_replay.specs.sg_hist.Reading.{Position, is_by_guard, is_item_of, is_tagged, last_items, older_items, last_places}
use Rattle.sg_replay.specs.sg_hist.Recovered.{is_clients}
use Rattle.sg_replay.specs.sg_hist.Wakes.{has_blocked, wakes_at}
use Rattle.sg_replay.specs.sg_hist.Growing.{IsGrown, IsOfNoEntry, booted, noted, struck}
use Rattle.sg_world_laws.specs.sg_clients.WorldView.{Seat, WorldView, is_held_phase, is_offered, no_reply, seat_in, seat_of, wakes_seat, woken_seat}
use Rattle.sg_world_laws.specs.sg_clients.declared.phase.Phase.{Phase}
use Rattle.sg_world_laws.specs.sg_clients.declared.phase.Phase.TheVariants.{Idle, Asked, Held, Receipted, Blocked}
use Rattle.sg_world_laws.specs.sg_recovery_laws.LastItem.LastPlace.{HaveItems, last_place}
use Rattle.sg_world_laws.proofs.Ending.Calls.{own_tag, none_of_stub}
use Rattle.sg_world_laws.proofs.Ending.Boots.{places_last_struck}
use Rattle.sg_world_laws.proofs.Ending.Seats.{each_entered, each_set, each_woken}
use Rattle.sg_world_laws.proofs.Ending.Shapes.{answered_seats, entry_with, given_seats, seat_after, woken}
use Rattle.sg_world_laws.proofs.Ending.Blocked.{blocked_noted, blocked_same, blocked_waiting, unwoken_by, waits_on, wakes_nobody, wakes_only}
use Rattle.sg_world_laws.proofs.Ending.Wakers.{wakes_entered, wakes_noted, wakes_refused}
use Rattle.sg_world_laws.specs.Ending.{AreBlockedSoFar, IsBlockedSeat}
use Rattle.sg_replay.specs.sg_hist.Ending.{is_still_blocked}
use Rattle.sg_replay.specs.sg_hist.Inside.Parts.{waking_entries}
use Rattle.sg_world.specs.declared.did.Did.{Did}
use Rattle.sg_world.specs.declared.did.Did.TheVariants.{Answered, Blocked as Waits, Booted, Loaded, Lost, Replayed, Served, Skipped, Struck}
use Rattle.sg_world.specs.Steps.{AsksService, Commits, Steps}
use Rattle.sg_world_laws.proofs.Refusing.{by_the_guard}
use Rattle.sg_world_laws.proofs.Woken.{woken_is}
use Rattle.sg_world_laws.specs.Setting.{Setting}

-- a seat that a test may wake holds no reply that it didn't hold
held_woken : (test : Call → Bool) (s : Seat) → is_held_phase s.phase ≡ false → is_held_phase (woken_seat test s).phase ≡ false
held_woken test s none = elim (woken_is test s) [
  | inl same ↦ ap (λ (t : Seat). is_held_phase t.phase) same ∙ none
  | inr was ↦ ap (λ (t : Seat). is_held_phase t.phase) was.1
]

-- the service stops
pub blocked_struck : (facts : Facts) (history : List Entry) (boots : List Boot) (seats : List Seat) (stop : ℕ) → AreBlockedSoFar facts history boots seats → AreBlockedSoFar facts history (struck boots stop) seats
blocked_struck facts history boots seats stop is client from to = record {
  blocked = λ blocked. ap (is_still_blocked facts (waking_entries facts history) (seat_in seats client).call) (places_last_struck boots stop) ∙ (is client from to).blocked blocked;
  visible = (is client from to).visible;
}

-- the service is booted: nobody waits
pub blocked_booted : (facts : Facts) (history : List Entry) (boots : List Boot) (seats : List Seat) → AreBlockedSoFar facts history boots seats → AreBlockedSoFar facts history (booted boots) (map (woken_seat (λ call. true)) seats)
blocked_booted facts history boots seats is =
    each_woken (λ client s. IsBlockedSeat facts (waking_entries facts history) (booted boots) s) (λ call. true) seats (λ client from to. record {
      blocked = λ blocked. let unmet = (waits_on (λ call. true) (seat_in seats client) blocked).unmet in absurd (cc unmet);
      visible = λ all. held_woken (λ call. true) (seat_in seats client) ((is client from to).visible all);
    })

-- one seat changes, and doesn't wait
pub blocked_set : (facts : Facts) (history : List Entry) (boots : List Boot) (seats : List Seat) (c : ℕ) (new : Seat) → 1 ≤ c → c ≤ length seats → (new.phase ≡ Blocked → ⊥) → (facts.global ≡ true → is_held_phase new.phase ≡ false)
    → AreBlockedSoFar facts history boots seats → AreBlockedSoFar facts history boots (slice_set seats (c - 1) new)
blocked_set facts history boots seats c new first last free visible is =
    each_set (λ client s. IsBlockedSeat facts (waking_entries facts history) boots s) seats c new first last (record { blocked = λ blocked. absurd (free blocked); visible = visible }) (λ client from to other. is client from to)

module _ (z : Setting) (w : WorldView) (c : ℕ) (first : 1 ≤ c) (last : c ≤ length w.seats) (its : is_offered (seat_of w c).phase ≡ true → (seat_of w c).call.client ≡ c)
    (next : (item : Item) → is_offered (seat_of w c).phase ≡ true → item.tag ≡ Client c (seat_of w c).call.seq → IsOfNoEntry item w.history) (begun : w.run.boots ≢ [])
    (items : HaveItems (older_items [] w.run.boots ++ last_items w.run.boots) w.history) (is : AreBlockedSoFar z.iface.facts w.history w.run.boots w.seats) where
  abbrev facts : Facts
  facts = z.iface.facts

  abbrev s : Seat
  s = seat_of w c

  abbrev boots : List Boot
  boots = w.run.boots

  abbrev old : List Entry
  old = waking_entries facts w.history

  abbrev Tells : WorldView → Type 0
  Tells later = AreBlockedSoFar z.iface.facts later.history later.run.boots later.seats

  blocked_at : (later : WorldView) (history : List Entry) (now : List Boot) (seats : List Seat) → later.history ≡ history → later.run.boots ≡ now → later.seats ≡ seats → AreBlockedSoFar facts history now seats → Tells later
  blocked_at later history now seats h b l so =
      subst (λ e. AreBlockedSoFar facts e later.run.boots later.seats) (sym h) (subst (λ e. AreBlockedSoFar facts history e later.seats) (sym b) (subst (AreBlockedSoFar facts history now) (sym l) so))

  offers_by : (p : Phase) → s.phase ≡ p → is_offered p ≡ true → is_offered s.phase ≡ true
  offers_by p was offers = ap is_offered was ∙ offers

  -- ---- an item is noted that is of no entry

  none_waking : (item : Item) → IsOfNoEntry item w.history → IsOfNoEntry item old
  none_waking item none = by facts.global
    where
      by : (g : Bool) → IsOfNoEntry item (cond g w.history [])
      by true = none
      by false = tt

  same_noted : (item : Item) → IsOfNoEntry item w.history → (id : ℕ) (p q : Position) → IsGrown item p q → wakes_at facts old id q ≡ wakes_at facts old id p
  same_noted item none id p q g = wakes_noted facts id item p q old (none_waking item none) g

  seat_noted : (item : Item) → IsOfNoEntry item w.history → (client : ℕ) → 1 ≤ client → client ≤ length w.seats → IsBlockedSeat facts old (noted boots item) (seat_of w client)
  seat_noted item none client from to = record {
    blocked = λ blocked.
        blocked_noted facts old old item (same_noted item none) (seat_of w client).call boots begun
        (wakes_nobody facts (seat_of w client).call.desc (last_place (older_items [] boots) (last_items boots) item) old (none_waking item none)) ((is client from to).blocked blocked);
    visible = (is client from to).visible;
  }

  line_noted : (item : Item) → IsOfNoEntry item w.history → AreBlockedSoFar facts w.history (noted boots item) w.seats
  line_noted item none client from to = seat_noted item none client from to

  -- and the seat of the client is another
  line_noted_set : (item : Item) (new : Seat) → IsOfNoEntry item w.history → IsBlockedSeat facts old (noted boots item) new → AreBlockedSoFar facts w.history (noted boots item) (slice_set w.seats (c - 1) new)
  line_noted_set item new none own =
      each_set (λ client t. IsBlockedSeat facts old (noted boots item) t) w.seats c new first last own (λ client from to other. seat_noted item none client from to)

  -- the client has to wait
  blocked_own : (item : Item) → IsOfNoEntry item w.history → item.tag ≡ Client c s.call.seq → item.outcome ≡ Blocks → is_offered s.phase ≡ true → IsBlockedSeat facts old (noted boots item) (record s { phase = Blocked })
  blocked_own item none tag blocks offers = record {
    blocked = λ blocked.
        blocked_waiting facts old old item (same_noted item none) s.call boots begun
        (ap (λ t. is_tagged s.call.client s.call.seq t && has_blocked item.outcome) tag ∙ ap (λ n. is_tagged n s.call.seq (Client c s.call.seq) && has_blocked item.outcome) (its offers)
        ∙ ap (λ b. b && has_blocked item.outcome) (own_tag c s.call.seq) ∙ ap (λ o. true && has_blocked o) blocks);
    visible = λ all. refl;
  }

  -- ---- an entry is made

  abbrev now_with : Reply → List Entry
  now_with reply = waking_entries facts (w.history ++ entry_with facts w c reply ∷ [])

  abbrev test_of : Reply → Call → Bool
  test_of reply other = wakes_seat facts (object_of facts w.history).rows s.call reply other

  line_entered : (now : List Boot) (reply : Reply) (p : Phase) (kept : Reply) → (p ≡ Blocked → ⊥) → is_held_phase p ≡ false
      → ((call : Call) → test_of reply call ≡ false → is_still_blocked facts old call (last_places boots) ≡ true → is_still_blocked facts (now_with reply) call (last_places now) ≡ true)
      → AreBlockedSoFar facts (w.history ++ entry_with facts w c reply ∷ []) now (slice_set (woken facts w c reply) (c - 1) (seat_after facts w c reply p kept))
  line_entered now reply p kept free held all =
      each_entered (λ client t. IsBlockedSeat facts (now_with reply) now t) (test_of reply) w.seats c (seat_after facts w c reply p kept) first last
      (record { blocked = λ blocked. absurd (free blocked); visible = λ g. held })
      (λ client from to other. record {
        blocked = λ blocked.
            let waits = waits_on (test_of reply) (seat_of w client) blocked in
            ap (λ call. is_still_blocked facts (now_with reply) call (last_places now)) waits.call ∙ all (seat_of w client).call waits.unmet ((is client from to).blocked waits.waited);
        visible = λ g. held_woken (test_of reply) (seat_of w client) ((is client from to).visible g);
      })

  -- a held reply is returned
  line_returned : (reply kept : Reply) → s.phase ≡ Held → AreBlockedSoFar facts (w.history ++ entry_with facts w c reply ∷ []) boots (slice_set (woken facts w c reply) (c - 1) (seat_after facts w c reply Idle kept))
  line_returned reply kept held = by facts.global refl
    where
      by : (g : Bool) → facts.global ≡ g → AreBlockedSoFar facts (w.history ++ entry_with facts w c reply ∷ []) boots (slice_set (woken facts w c reply) (c - 1) (seat_after facts w c reply Idle kept))
      by true all = absurd (let none = (is c first last).visible all in let some : is_held_phase s.phase ≡ true = ap is_held_phase held in cc (none, some))
      by false alone =
          let same : now_with reply ≡ old = ap (λ g. cond g (w.history ++ entry_with facts w c reply ∷ []) []) alone ∙ sym (ap (λ g. cond g w.history []) alone) in
          line_entered boots reply Idle kept (λ a. cc a) refl (λ call unmet blocked. ap (λ es. is_still_blocked facts es call (last_places boots)) same ∙ blocked)

  -- the guard refuses
  line_refused : (reply : Reply) (code : Code) (kept : Reply) → guard z.iface (object_of facts w.history) s.call ≡ Some code → reply ≡ Refused code
      → AreBlockedSoFar facts (w.history ++ entry_with facts w c reply ∷ []) boots (slice_set (woken facts w c reply) (c - 1) (seat_after facts w c reply Idle kept))
  line_refused reply code kept guarded answers =
      line_entered boots reply Idle kept (λ a. cc a) refl (λ call unmet blocked. blocked_same facts old (now_with reply) call (λ p. by call.desc p facts.global) (last_places boots) ∙ blocked)
    where
      guards : is_by_guard reply ≡ true
      guards = ap is_by_guard answers ∙ by_the_guard z.iface (object_of facts w.history) s.call code guarded

      by : (id : ℕ) (p : Position) (g : Bool) → wakes_at facts (cond g (w.history ++ entry_with facts w c reply ∷ []) []) id p ≡ wakes_at facts (cond g w.history []) id p
      by id p true = wakes_refused facts id p w.history (entry_with facts w c reply) guards
      by id p false = refl

  -- an item is noted with its entry
  line_committed : (item : Item) (reply : Reply) → item.tag ≡ Client c s.call.seq → is_offered s.phase ≡ true
      → AreBlockedSoFar facts (w.history ++ entry_with facts w c reply ∷ []) (noted boots item) (slice_set (woken facts w c reply) (c - 1) (seat_after facts w c reply Receipted reply))
  line_committed item reply tag offers =
      line_entered (noted boots item) reply Receipted reply (λ a. cc a) refl
      (λ call unmet blocked. blocked_noted facts old (now_with reply) item same_entered call boots begun (nobody call unmet facts.global) blocked)
    where
      none : IsOfNoEntry item w.history
      none = next item offers tag

      own_item : is_item_of (entry_with facts w c reply) item ≡ true
      own_item = ap (is_tagged s.call.client s.call.seq) tag ∙ ap (λ n. is_tagged n s.call.seq (Client c s.call.seq)) (its offers) ∙ own_tag c s.call.seq

      same_entered : (id : ℕ) (p q : Position) → IsGrown item p q → wakes_at facts (now_with reply) id q ≡ wakes_at facts old id p
      same_entered id p q g = by facts.global
        where
          by : (b : Bool) → wakes_at facts (cond b (w.history ++ entry_with facts w c reply ∷ []) []) id q ≡ wakes_at facts (cond b w.history []) id p
          by true = wakes_entered facts id item p q w.history (entry_with facts w c reply) none own_item g
          by false = refl

      nobody : (call : Call) → test_of reply call ≡ false → (g : Bool)
          → wakes_at facts (cond g (w.history ++ entry_with facts w c reply ∷ []) []) call.desc (last_place (older_items [] boots) (last_items boots) item) ≡ false
      nobody call unmet true =
          wakes_only facts call.desc (older_items [] boots) (last_items boots) item w.history (entry_with facts w c reply) none items own_item
          (unwoken_by facts (object_of facts w.history).rows s.call call reply unmet)
      nobody call unmet false = refl

  -- ---- a step

  commits : (between : WorldView) → Commits z w c between → Tells between
  commits between l =
      let asked = l.asks.reaches.uses.let_in.phase in
      blocked_at between (w.history ++ entry_with facts w c l.reply ∷ []) (noted boots l.asks.item) (slice_set (woken facts w c l.reply) (c - 1) (seat_after facts w c l.reply Receipted l.reply))
      (ap (λ x. x.history) l.now) (ap (λ x. x.run.boots) l.now) (ap (λ x. x.seats) l.now ∙ given_seats facts w c l.reply (its (offers_by Asked asked refl)))
      (line_committed l.asks.item l.reply l.asks.tag (offers_by Asked asked refl))

  own_next : (asks : AsksService z w c) → IsOfNoEntry asks.item w.history
  own_next asks = next asks.item (offers_by Asked asks.reaches.uses.let_in.phase refl) asks.tag

  -- it is kept by each step
  pub blocked_step : (did : Did) (later : WorldView) → Steps z w c did later → Tells later
  blocked_step Skipped later l = subst Tells (sym l.now) is
  blocked_step (Answered reply) later (inl l) =
      subst Tells (sym l.now) (blocked_set facts w.history boots w.seats c (record s { phase = Idle; reply = no_reply }) first last (λ a. cc a) (λ all. refl) is)
  blocked_step (Answered reply) later (inr (inl l)) =
      blocked_at later (w.history ++ entry_with facts w c reply ∷ []) boots (slice_set (woken facts w c reply) (c - 1) (seat_after facts w c reply Idle no_reply))
      (ap (λ x. x.history) l.now) (ap (λ x. x.run.boots) l.now) (ap (λ x. x.seats) l.now ∙ answered_seats facts w c reply (its (offers_by Held l.phase refl)))
      (line_returned reply no_reply l.phase)
  blocked_step (Answered reply) later (inr (inr l)) =
      blocked_at later (w.history ++ entry_with facts w c reply ∷ []) boots (slice_set (woken facts w c reply) (c - 1) (seat_after facts w c reply Idle no_reply))
      (ap (λ x. x.history) l.now) (ap (λ x. x.run.boots) l.now) (ap (λ x. x.seats) l.now ∙ answered_seats facts w c reply (its (offers_by Asked l.phase refl)))
      (line_refused reply l.code no_reply l.guarded l.its)
  blocked_step Lost later l = subst Tells (sym l.now) (blocked_set facts w.history boots w.seats c (record s { phase = Asked }) first last (λ a. cc a) (λ all. refl) is)
  blocked_step Booted later l = subst Tells (sym l.now) (blocked_booted facts w.history boots w.seats is)
  blocked_step Struck later (inl l) = subst Tells (sym l.now) (blocked_struck facts w.history boots w.seats (asked_after w.run.points 1) is)
  blocked_step Struck later (inr (inl l)) =
      subst Tells (sym l.now) (blocked_struck facts w.history (noted boots l.item) w.seats l.item.points (line_noted l.item (none_of_stub l.item w.history (ap is_clients l.tag))))
  blocked_step Struck later (inr (inr (inl l))) =
      subst Tells (sym l.now) (blocked_struck facts w.history (noted boots l.asks.item) w.seats l.asks.item.points (line_noted l.asks.item (own_next l.asks)))
  blocked_step Struck later (inr (inr (inr l))) =
      subst Tells (sym l.now) (blocked_struck facts l.between.history l.between.run.boots l.between.seats (asked_after l.between.run.points 1) (commits l.between l.commits))
  blocked_step Replayed later l = subst Tells (sym l.now) (line_noted l.item (none_of_stub l.item w.history (ap is_clients l.tag)))
  blocked_step Loaded later l = subst Tells (sym l.now) (line_noted l.item (none_of_stub l.item w.history (ap is_clients l.tag)))
  blocked_step Waits later l =
      subst Tells (sym l.now) (line_noted_set l.asks.item (record s { phase = Blocked }) (own_next l.asks)
      (blocked_own l.asks.item (own_next l.asks) l.asks.tag l.outcome (offers_by Asked l.asks.reaches.uses.let_in.phase refl)))
  blocked_step Served later (inl l) = subst Tells (sym l.now) (commits l.between l.commits)
  blocked_step Served later (inr l) =
      let f = fun_at facts.funs s.call.fun in
      subst Tells (sym l.now) (line_noted_set l.asks.item (record s { phase = Held; boot = length boots; reply = l.reply }) (own_next l.asks) (record {
        blocked = λ blocked. absurd (cc blocked);
        visible = λ all. absurd (let seen : is_visible facts s.call.fun ≡ true = ap (λ g. g || f.uses_file || f.creation) all in let hidden = l.hidden in cc (seen, hidden));
      }))
