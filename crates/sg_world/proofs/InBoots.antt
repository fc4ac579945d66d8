-- Along the history of a world the boots of the entries' items never go back, whatever a step does: what is held when the service stops
-- is no entry of that boot any more.
use Rattle.std.proofs.Common.{Bool, List, None, Some, [], ap, arith, cond, inl, inr, length, refl, slice_get, subst, suc, sym, true, false, zero, ℕ, ◌&&◌, ◌++◌, ◌-◌, ◌∙◌, ◌∷◌, ◌≡◌, ◌≢◌, ◌≤◌, ◌⊎◌}
use Rattle.std.specs.Prelude.{IfOk, OnErr, ◌==◌}
use Rattle.std.specs.Result.{is_err}
use Rattle.std.specs.declared.result.Result.{Result}
use Rattle.std.specs.declared.result.Result.TheVariants.{Err, Ok as Done}
use Rattle.sg_facts.specs.sg_base.Lists.{Each}
use Rattle.sg_facts.specs.sg_base.Stops.{asked_after}
use Rattle.sg_facts.specs.sg_base.declared.call.Call.{Call}
use Rattle.sg_facts.specs.sg_base.declared.memory.NoMemory.{NoMemory}
use Rattle.sg_facts.specs.sg_base.declared.reply.Reply.{Reply}
use Rattle.sg_facts.specs.sg_base.declared.reply.Reply.TheVariants.{Ok, Refused}
use Rattle.sg_facts.proofs.Replaying.Found.{same_test}
use Rattle.sg_facts.specs.Facts.{Facts}
use Rattle.sg_facts.specs.Inside.Rows.{refused_or}
use Rattle.sg_facts.specs.Legal.{answer}
use Rattle.sg_facts.specs.Object.{Object, object_of}
use Rattle.sg_facts.specs.Trace.{Boot}
use Rattle.sg_facts.specs.declared.entry.Entry.{Entry}
use Rattle.sg_facts.specs.declared.trace.Item.{Item}
use Rattle.sg_facts.specs.declared.trace.Tag.TheVariants.{Client}
use Rattle.sg_replay.specs.sg_boot.Cells.{IsRunning}
use Rattle.sg_replay.specs.sg_hist.Clients.{calls_of}
use Rattle.sg_replay.specs.sg_hist.Growing.{IsInLast, IsOfNoEntry, asked_over, last_stop, noted, struck}
use Rattle.sg_replay.specs.sg_hist.Inside.Parts.{IsCommitted}
use Rattle.sg_replay.specs.sg_hist.Reading.{is_by_guard, is_item_of, is_tagged, places_of}
use Rattle.sg_replay.specs.sg_hist.Recovered.{AreInBoots, is_clients}
use Rattle.sg_clients.specs.WorldView.{Seat, WorldView, boot_number, held_in, held_replies, is_held_in, is_held_phase, is_offered, seat_of, struck_at, with_points}
use Rattle.sg_world_laws.proofs.sg_recovery_laws.InBoots.{boots_appended, boots_after, boots_between, boots_booted, boots_committed, boots_counted, boots_noted, boots_refused, boots_within}
use Rattle.sg_world_laws.proofs.sg_recovery_laws.Lists.{each_map}
use Rattle.sg_world_laws.specs.sg_recovery_laws.Objects.Waiting.{AreWaiting}
use Rattle.sg_world_laws.proofs.Ending.Calls.{none_of_next, none_of_stub, own_tag, test_same}
use Rattle.sg_world_laws.proofs.Entered.{numbers_below}
use Rattle.sg_world_laws.proofs.Refusing.{by_the_guard}
use Rattle.sg_world_laws.proofs.Turns.{seat_there}
use Rattle.sg_world_laws.specs.Keeping.{KeepsPromise, Stub}
use Rattle.sg_world_laws.specs.Seats.{IsSeated}
use Rattle.sg_world_laws.specs.Setting.{IsSetting, Setting}
use Rattle.sg_world.proofs.Counting.{at_least, sum_is}
use Rattle.sg_world.proofs.Points.{some_is}
use Rattle.sg_world.proofs.Recovered.{recovering_now, seated_now}
use Rattle.sg_world.specs.Inside.Lines.{NoMemoryLeft}
use Rattle.sg_world.specs.declared.did.Did.{Did}
use Rattle.sg_world.specs.declared.did.Did.TheVariants.{Answered, Blocked as Waits, Booted, Loaded, Lost, Replayed, Served, Skipped, Struck}
use Rattle.sg_world.specs.Steps.{AsksService, Commits, PassesGuard, Returns, Steps}
use Rattle.sg_world.specs.Worlded.{CountsAll}

-- ---- the last boot, however the boots are given

noted_on : (facts : Facts) (boots : List Boot) (points later : ℕ) (item : Item) (h : List Entry) → boots ≢ [] → last_stop boots ≡ None → IsOfNoEntry item h
    → AreInBoots facts (record { boots = boots; points = points }) 0 h → AreInBoots facts (record { boots = noted boots item; points = later }) 0 h
noted_on facts [] points later item h begun running none all = absurd (begun refl)
noted_on facts (b ∷ boots) points later item h begun running none all = boots_noted facts b boots points later item h running none all

within_on : (facts : Facts) (boots : List Boot) (points later stop : ℕ) (item : Item) (h : List Entry) → boots ≢ [] → last_stop boots ≡ None → IsOfNoEntry item h
    → AreInBoots facts (record { boots = boots; points = points }) 0 h → AreInBoots facts (record { boots = struck (noted boots item) stop; points = later }) 0 h
within_on facts [] points later stop item h begun running none all = absurd (begun refl)
within_on facts (b ∷ boots) points later stop item h begun running none all = boots_within facts b boots points later stop item h running none all

committed_on : (facts : Facts) (boots : List Boot) (points later : ℕ) (item : Item) (entries h : List Entry) (e : Entry) → boots ≢ [] → last_stop boots ≡ None
    → IsOfNoEntry item h → is_item_of e item ≡ true → is_by_guard e.reply ≡ false → Each (IsCommitted facts entries) (places_of (record { boots = noted boots item; points = later }))
    → AreInBoots facts (record { boots = boots; points = points }) 0 h → AreInBoots facts (record { boots = noted boots item; points = later }) 0 (h ++ e ∷ [])
committed_on facts [] points later item entries h e begun running none own served committed all = absurd (begun refl)
committed_on facts (b ∷ boots) points later item entries h e begun running none own served committed all = boots_committed facts b boots points later item entries h e running none own served committed all

after_on : (facts : Facts) (boots : List Boot) (points later stop : ℕ) (item : Item) (entries h : List Entry) (e : Entry) → boots ≢ [] → last_stop boots ≡ None
    → IsOfNoEntry item h → is_item_of e item ≡ true → is_by_guard e.reply ≡ false → Each (IsCommitted facts entries) (places_of (record { boots = struck (noted boots item) stop; points = later }))
    → AreInBoots facts (record { boots = boots; points = points }) 0 h → AreInBoots facts (record { boots = struck (noted boots item) stop; points = later }) 0 (h ++ e ∷ [])
after_on facts [] points later stop item entries h e begun running none own served committed all = absurd (begun refl)
after_on facts (b ∷ boots) points later stop item entries h e begun running none own served committed all = boots_after facts b boots points later stop item entries h e running none own served committed all

-- ---- held replies

-- what holds of each held reply holds of that of a seat
pub held_there : (P : Entry → Type 0) (boot : ℕ) (seats : List Seat) (n : ℕ) (s : Seat) → slice_get seats n ≡ Some s → is_held_in boot s ≡ true → Each P (held_in boot seats)
    → P (record { call = s.call; reply = s.reply })
held_there P boot [] n s there holds all = absurd (cc there)
held_there P boot (x ∷ seats) zero s there holds all =
    let same : x ≡ s = cc there in
    subst (λ (t : Seat). P (record { call = t.call; reply = t.reply })) same
    (subst (λ b. Each P (cond b (record { call = x.call; reply = x.reply } ∷ held_in boot seats) (held_in boot seats))) (ap (is_held_in boot) same ∙ holds) all).0
held_there P boot (x ∷ seats) (suc n) s there holds all = held_there P boot seats n s there holds (rest (is_held_in boot x) all)
  where
    rest : (b : Bool) → Each P (cond b (record { call = x.call; reply = x.reply } ∷ held_in boot seats) (held_in boot seats)) → Each P (held_in boot seats)
    rest true all = all.1
    rest false all = all

-- ---- a step

module _ (z : Setting) (set : IsSetting z) (w : WorldView) (c : ℕ) (first : 1 ≤ c) (last : c ≤ length w.seats) (stub : Stub) (k : KeepsPromise z w stub) (counts : CountsAll z w)
    (all : AreInBoots z.iface.facts w.run 0 w.history) where
  abbrev s : Seat
  s = seat_of w c

  abbrev boots : List Boot
  boots = w.run.boots

  abbrev o : Object
  o = object_of z.iface.facts w.history

  abbrev InBoots : WorldView → Type 0
  InBoots later = AreInBoots z.iface.facts later.run 0 later.history

  seat : IsSeated z w.history c (seat_of w c)
  seat = seated_now z w stub k c first last

  going : (v : Object) → w.running ≡ Some v → last_stop w.run.boots ≡ None
  going v up = (subst (IsRunning z.iface.facts w.run.boots) up k.cell.runs).unstopped

  -- a reply of the table isn't one of the guard
  by_table : (call : Call) (reply : Reply) → z.ask (object_of z.iface.facts w.history) call ≡ Some reply → is_by_guard reply ≡ false
  by_table call (Ok good) is = refl
  by_table call (Refused code) is = set.law.shape.refuses (object_of z.iface.facts w.history) call code is

  -- an item of a client's call that is asked is of no entry
  next : (asks : AsksService z w c) → IsOfNoEntry asks.item w.history
  next asks =
      let offers : is_offered (seat_of w c).phase ≡ true = ap is_offered asks.reaches.uses.let_in.phase in
      let entries : ℕ = length (calls_of w.history c) in
      none_of_next asks.item c (seat_of w c).call.seq entries w.history asks.tag (let one = seat.next offers in let count = seat.count in omega (arith, one, count))
      (each_map (λ e. e.call.client ≡ c → e.call.seq ≤ entries) (λ e. (e.call.client == c) ≡ true → e.call.seq ≤ entries) w.history
      (λ e below own. below (test_same e.call.client c own)) (numbers_below [] w.history c k.seats.numbered))

  its_item : (asks : AsksService z w c) (reply : Reply) → is_item_of (record { call = (seat_of w c).call; reply = reply }) asks.item ≡ true
  its_item asks reply =
      ap (is_tagged s.call.client s.call.seq) asks.tag ∙ ap (λ n. is_tagged n s.call.seq (Client c s.call.seq)) (seat.its (ap is_offered asks.reaches.uses.let_in.phase)) ∙ own_tag c s.call.seq

  served_by : (reply : Reply) → PassesGuard z w c → answer z.iface z.ask (object_of z.iface.facts w.history) (seat_of w c).call ≡ Some reply → is_by_guard reply ≡ false
  served_by reply let_in answers = by_table s.call reply (ap (λ g. refused_or g (z.ask o s.call)) (sym let_in.passes) ∙ answers)

  -- a held reply is committed
  returns : (reply : Reply) (later : WorldView) → Returns z w c reply later → InBoots later
  returns reply later l = subst InBoots (sym l.now)
      (boots_appended z.iface.facts w.run w.history w.history (record { call = s.call; reply = reply }) (going up.0 up.1) (recovering_now z w stub k).served.committed served in_last all)
    where
      up : (v : Object) × (w.running ≡ Some v)
      up = some_is w.running l.up

      holds : is_held_in (boot_number w) (seat_of w c) ≡ true
      holds = ap (λ p. is_held_phase p && (s.boot == boot_number w)) l.phase ∙ same_test s.boot (boot_number w) l.boot

      one : (P : Entry → Type 0) → Each P (held_replies w) → P (record { call = (seat_of w c).call; reply = reply })
      one P each =
          subst (λ r. P (record { call = s.call; reply = r })) (sym l.its)
          (held_there P (boot_number w) w.seats (c - 1) (seat_of w c) (seat_there w c first last) holds (subst (λ r. Each P (held_replies (record w { running = r }))) up.1 each))

      in_last : IsInLast w.run (record { call = (seat_of w c).call; reply = reply })
      in_last = one (IsInLast w.run) k.held_items

      answered : (es : List Entry) → AreWaiting z.iface.facts z.ask (object_of z.iface.facts w.history) es → Each (λ e. is_by_guard e.reply ≡ false) es
      answered [] waiting = tt
      answered (e ∷ es) waiting = (by_table e.call e.reply waiting.0.answered.answered, answered es waiting.2)

      served : is_by_guard reply ≡ false
      served = one (λ e. is_by_guard e.reply ≡ false) (answered (held_replies w) k.waiting)

  -- a visible call is committed, and the service goes on
  commits : (between : WorldView) (points : ℕ) → Commits z w c between → (later : WorldView) (stub' : Stub) → later ≡ with_points between points → KeepsPromise z later stub' → InBoots later
  commits between points l later stub' now kept =
      let item = l.asks.item in
      let e : Entry = record { call = s.call; reply = l.reply } in
      let run_is : later.run ≡ record { boots = noted boots item; points = points } = ap (λ x. x.run) now ∙ ap (λ x. (with_points x points).run) l.now in
      subst InBoots (sym now)
      (subst (λ x. InBoots (with_points x points)) (sym l.now)
      (committed_on z.iface.facts boots w.run.points points item later.history w.history e k.cell.begun (going l.asks.service l.asks.reaches.uses.running) (next l.asks) (its_item l.asks l.reply)
      (served_by l.reply l.asks.reaches.uses.let_in l.answers) (subst (λ r. Each (IsCommitted z.iface.facts later.history) (places_of r)) run_is (recovering_now z later stub' kept).served.committed) all))

  -- or it stops right after that
  stops : (between : WorldView) (point : ℕ) → Commits z w c between → (later : WorldView) (stub' : Stub) → later ≡ struck_at between point → KeepsPromise z later stub' → InBoots later
  stops between point l later stub' now kept =
      let item = l.asks.item in
      let e : Entry = record { call = s.call; reply = l.reply } in
      let run_is : later.run ≡ record { boots = struck (noted boots item) point; points = point } = ap (λ x. x.run) now ∙ ap (λ x. (struck_at x point).run) l.now in
      subst InBoots (sym now)
      (subst (λ x. InBoots (struck_at x point)) (sym l.now)
      (after_on z.iface.facts boots w.run.points point point item later.history w.history e k.cell.begun (going l.asks.service l.asks.reaches.uses.running) (next l.asks) (its_item l.asks l.reply)
      (served_by l.reply l.asks.reaches.uses.let_in l.answers) (subst (λ r. Each (IsCommitted z.iface.facts later.history) (places_of r)) run_is (recovering_now z later stub' kept).served.committed) all))

  -- an item is noted that is of no entry
  notes : (v : Object) → w.running ≡ Some v → (item : Item) (later : ℕ) → IsOfNoEntry item w.history → AreInBoots z.iface.facts (record { boots = noted w.run.boots item; points = later }) 0 w.history
  notes v up item later none = noted_on z.iface.facts boots w.run.points later item w.history k.cell.begun (going v up) none all

  -- or the service stops within it
  breaks : (v : Object) → w.running ≡ Some v → (item : Item) → IsOfNoEntry item w.history → InBoots (struck_at (record w { run = record { boots = noted w.run.boots item; points = item.points } }) item.points)
  breaks v up item none = within_on z.iface.facts boots w.run.points item.points item.points item w.history k.cell.begun (going v up) none all

  pub steps_in_boots : (did : Did) (later : WorldView) (stub' : Stub) → KeepsPromise z later stub' → Steps z w c did later → AreInBoots z.iface.facts later.run 0 later.history
  steps_in_boots Skipped later stub' kept l = subst InBoots (sym l.now) all
  steps_in_boots (Answered reply) later stub' kept (inl l) = subst InBoots (sym l.now) all
  steps_in_boots (Answered reply) later stub' kept (inr (inl l)) = returns reply later l
  steps_in_boots (Answered reply) later stub' kept (inr (inr l)) =
      subst InBoots (sym l.now)
      (boots_refused z.iface.facts w.run w.history (record { call = s.call; reply = reply }) (ap is_by_guard l.its ∙ by_the_guard z.iface o s.call l.code l.guarded) all)
  steps_in_boots Lost later stub' kept l = subst InBoots (sym l.now) all
  steps_in_boots Booted later stub' kept l = subst InBoots (sym l.now) (boots_booted z.iface.facts boots w.run.points w.run.points w.history all)
  steps_in_boots Struck later stub' kept (inl l) =
      let point : ℕ = asked_after w.run.points 1 in
      let sum : asked_over z.iface.facts 0 w.run.boots ≤ w.run.points
      = at_least (w.refused == 0) w.run.points (asked_over z.iface.facts 0 w.run.boots) (sum_is (w.refused == 0) z.iface.facts z.ask z.parts 0 w.run.boots w.run.points counts) in
      let late : asked_after (asked_over z.iface.facts 0 w.run.boots) 1 ≤ asked_after w.run.points 1 = omega (arith, sum) in
      subst InBoots (sym l.now) (boots_between z.iface.facts 0 boots w.run.points point point w.history (going l.service l.uses.running) late all)
  steps_in_boots Struck later stub' kept (inr (inl l)) = subst InBoots (sym l.now) (breaks l.service l.uses.running l.item (none_of_stub l.item w.history (ap is_clients l.tag)))
  steps_in_boots Struck later stub' kept (inr (inr (inl l))) = subst InBoots (sym l.now) (breaks l.asks.service l.asks.reaches.uses.running l.asks.item (next l.asks))
  steps_in_boots Struck later stub' kept (inr (inr (inr l))) = stops l.between (asked_after l.between.run.points 1) l.commits later stub' l.now kept
  steps_in_boots Replayed later stub' kept l = subst InBoots (sym l.now) (notes l.service l.uses.running l.item l.item.points (none_of_stub l.item w.history (ap is_clients l.tag)))
  steps_in_boots Loaded later stub' kept l = subst InBoots (sym l.now) (notes l.service l.uses.running l.item l.item.points (none_of_stub l.item w.history (ap is_clients l.tag)))
  steps_in_boots Waits later stub' kept l = subst InBoots (sym l.now) (notes l.asks.service l.asks.reaches.uses.running l.asks.item l.asks.item.points (next l.asks))
  steps_in_boots Served later stub' kept (inl l) = commits l.between (asked_after l.between.run.points 1) l.commits later stub' l.now kept
  steps_in_boots Served later stub' kept (inr l) = subst InBoots (sym l.now) (notes l.asks.service l.asks.reaches.uses.running l.asks.item l.asks.item.points (next l.asks))

  -- a step was made
  pub ok_in_boots : (later : WorldView) (stub' : Stub) → KeepsPromise z later stub' → (r : Result Did NoMemory) → is_err r ≡ false → IfOk r (λ did. Steps z w c did later) → AreInBoots z.iface.facts later.run 0 later.history
  ok_in_boots later stub' kept (Done did) ok steps = steps_in_boots did later stub' kept steps
  ok_in_boots later stub' kept (Err error) ok steps = absurd (cc ok)

  -- or wanted memory
  pub err_in_boots : (later : WorldView) (r : Result Did NoMemory) → is_err r ≡ true → OnErr r (NoMemoryLeft z w c later) → AreInBoots z.iface.facts later.run 0 later.history
  err_in_boots later (Done did) err left = absurd (cc err)
  err_in_boots later (Err error) err left = by left.now
    where
      by : (later ≡ w) ⊎ (later ≡ with_points w (asked_after w.run.points 1)) → InBoots later
      by (inl same) = subst InBoots (sym same) all
      by (inr more) = subst InBoots (sym more) (boots_counted z.iface.facts boots w.run.points (asked_after w.run.points 1) w.history all)
