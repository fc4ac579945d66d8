-- The boots of a world might end as they stand, or somebody will use the service, behind each of its events.
use Rattle.std.proofs.Common.{◌≡◌, ℕ, ◌-◌, ◌≤◌, true, ◌&&◌, List, [], ◌∷◌, ◌++◌, IsSome, length, refl, sym, ◌∙◌, ap, subst, inl, inr, arith, slice_set}
use Rattle.sg_facts.specs.sg_base.Stops.{asked_after}
use Rattle.sg_facts.specs.sg_base.declared.call.Call.{Call}
use Rattle.sg_facts.specs.sg_base.declared.reply.Code.{Code}
use Rattle.sg_facts.specs.sg_base.declared.reply.Reply.{Reply}
use Rattle.sg_facts.specs.sg_base.declared.reply.Reply.TheVariants.{Refused}
use Rattle.sg_replay.specs.sg_boot.Cells.{IsCell}
use Rattle.sg_facts.specs.declared.entry.Entry.{Entry}
use Rattle.sg_facts.specs.declared.trace.Item.{Item}
use Rattle.sg_facts.specs.Facts.{Facts, is_visible}
use Rattle.sg_facts.specs.Object.{Object, object_of}
use Rattle.sg_facts.specs.Trace.{Boot}
use Rattle.sg_replay.specs.sg_hist.Recovered.{is_clients, is_replied, is_visible_reply}
use Rattle.sg_world_laws.proofs.sg_clients.Lines.{length_set, seat_here}
use Rattle.sg_world_laws.proofs.sg_recovery_laws.sg_hist.Growing.{object_of-more}
use Rattle.sg_replay.specs.sg_hist.Growing.{noted, struck}
use Rattle.sg_world_laws.specs.sg_clients.WorldView.{Seat, WorldView, is_offered, no_reply, seat_of, wakes_seat}
use Rattle.sg_world_laws.specs.sg_clients.declared.phase.Phase.{Phase}
use Rattle.sg_world_laws.specs.sg_clients.declared.phase.Phase.TheVariants.{Idle, Asked, Held, Receipted, Blocked}
use Rattle.sg_world_laws.proofs.Ending.Ended.{asked_noted, asked_struck, ending_booted, ending_kept, ending_now, ending_struck, goes_on, quiet_after, quiet_running, stop_noted}
use Rattle.sg_world_laws.proofs.Ending.Seats.{here_entered, length_entered, others_entered, others_same, others_set}
use Rattle.sg_world_laws.proofs.Ending.Shapes.{answered_seats, entry_with, given_seats, seat_after, woken}
use Rattle.sg_world_laws.proofs.Ending.Boots.{length_noted, length_struck}
use Rattle.sg_world_laws.specs.Ending.{EndsWell, IsEndingSoFar}
use Rattle.sg_replay.specs.sg_hist.Inside.Parts.{EndsUsed}
use Rattle.sg_world.specs.declared.did.Did.{Did}
use Rattle.sg_world.specs.declared.did.Did.TheVariants.{Answered, Blocked as Waits, Booted, Loaded, Lost, Replayed, Served, Skipped, Struck}
use Rattle.sg_world.specs.Steps.{AsksService, Commits, PassesGuard, Refuses, Returns, Steps, UsesService}
use Rattle.sg_world_laws.specs.Setting.{Setting}

-- a refusal leaves the object
object_refused : (facts : Facts) (history : List Entry) (call : Call) (reply : Reply) (code : Code) → reply ≡ Refused code
    → object_of facts (history ++ record { call = call; reply = reply } ∷ []) ≡ object_of facts history
object_refused facts history call reply code is =
    ap (λ r. object_of facts (history ++ record { call = call; reply = r } ∷ [])) is ∙ object_of-more facts history (record { call = call; reply = Refused code })

module _ (z : Setting) (w : WorldView) (c : ℕ) (first : 1 ≤ c) (last : c ≤ length w.seats) (its : is_offered (seat_of w c).phase ≡ true → (seat_of w c).call.client ≡ c)
    (cell : IsCell z.iface.facts w.running w.run.boots) (is : IsEndingSoFar z.iface w.history w.run.boots w.seats) where
  abbrev s : Seat
  s = seat_of w c

  abbrev Ends : WorldView → Type 0
  Ends later = IsEndingSoFar z.iface later.history later.run.boots later.seats

  -- it holds of a world by its history, its boots and its seats
  ends_at : (later : WorldView) (history : List Entry) (boots : List Boot) (seats : List Seat) → later.history ≡ history → later.run.boots ≡ boots → later.seats ≡ seats
      → IsEndingSoFar z.iface history boots seats → Ends later
  ends_at later history boots seats h b l ends =
      subst (λ x. IsEndingSoFar z.iface x later.run.boots later.seats) (sym h) (subst (λ x. IsEndingSoFar z.iface history x later.seats) (sym b) (subst (IsEndingSoFar z.iface history boots) (sym l) ends))

  other_phase : (p : Phase) → s.phase ≡ p → (p ≡ Asked → ⊥) → s.phase ≡ Asked → ⊥
  other_phase p was not asked = not (sym was ∙ asked)

  offers_by : (p : Phase) → s.phase ≡ p → is_offered p ≡ true → is_offered s.phase ≡ true
  offers_by p was offers = ap is_offered was ∙ offers

  -- the seat of the client is another, and won't ask
  seat_changed : (later : WorldView) (new : Seat) → (s.phase ≡ Asked → ⊥) → (new.phase ≡ Held → ⊥) → later.history ≡ w.history → later.run.boots ≡ w.run.boots → later.seats ≡ slice_set w.seats (c - 1) new → Ends later
  seat_changed later new not none h b l =
      ends_at later w.history w.run.boots (slice_set w.seats (c - 1) new) h b l
      (ending_kept z.iface w.history w.history w.run.boots w.seats (slice_set w.seats (c - 1) new) c is (length_set w.seats (c - 1) new) (others_set w.seats c new first last) refl
      (λ asked passes. not asked) (λ holds. none (ap (λ x. x.phase) (sym (seat_here w.seats c new first last)) ∙ holds)))

  -- the service stopped in a call that is asked again
  boot_struck : (later : WorldView) (boots : List Boot) → PassesGuard z w c → later.history ≡ w.history → later.run.boots ≡ boots → later.seats ≡ w.seats → length boots ≡ length w.run.boots
      → (EndsUsed w.run.boots → EndsUsed boots) → Ends later
  boot_struck later boots let_in h b l count more =
      ends_at later w.history boots w.seats h b l (ending_struck z.iface w.history w.run.boots boots w.seats c first last let_in.phase let_in.passes count more is)

  -- an item is noted in a boot that goes on
  well_noted : (item : Item) (service : Object) → UsesService z w c service → EndsWell z.iface.facts (noted w.run.boots item)
  well_noted item service uses = (
    asked_noted w.run.boots item,
    quiet_running z.iface.facts (noted w.run.boots item) (stop_noted w.run.boots item ∙ goes_on z.iface.facts w.running w.run.boots cell (subst IsSome (sym uses.running) refl)),
  )

  boot_noted : (later : WorldView) (item : Item) (service : Object) → UsesService z w c service → later.history ≡ w.history → later.run.boots ≡ noted w.run.boots item → later.seats ≡ w.seats → Ends later
  boot_noted later item service uses h b l =
      ends_at later w.history (noted w.run.boots item) w.seats h b l
      (ending_now z.iface w.history w.history w.run.boots w.seats w.seats c is refl (others_same w.seats c) (noted w.run.boots item) (well_noted item service uses) (length_noted w.run.boots item)
      (λ holds. (is.held c first last holds).within))

  boot_noted_set : (later : WorldView) (item : Item) (service : Object) (new : Seat) → UsesService z w c service → later.history ≡ w.history → later.run.boots ≡ noted w.run.boots item
      → later.seats ≡ slice_set w.seats (c - 1) new → (new.phase ≡ Held → new.boot ≤ length w.run.boots) → Ends later
  boot_noted_set later item service new uses h b l own =
      ends_at later w.history (noted w.run.boots item) (slice_set w.seats (c - 1) new) h b l
      (ending_now z.iface w.history w.history w.run.boots w.seats (slice_set w.seats (c - 1) new) c is (length_set w.seats (c - 1) new) (others_set w.seats c new first last) (noted w.run.boots item)
      (well_noted item service uses) (length_noted w.run.boots item)
      (subst (λ (x : Seat). x.phase ≡ Held → x.boot ≤ length w.run.boots) (sym (seat_here w.seats c new first last)) own))

  -- its call is entered
  boot_entered : (later : WorldView) (boots : List Boot) (reply : Reply) (p : Phase) (kept : Reply) → (p ≡ Held → ⊥) → later.history ≡ w.history ++ entry_with z.iface.facts w c reply ∷ []
      → later.run.boots ≡ boots → later.seats ≡ slice_set (woken z.iface.facts w c reply) (c - 1) (seat_after z.iface.facts w c reply p kept) → EndsWell z.iface.facts boots → length boots ≡ length w.run.boots → Ends later
  boot_entered later boots reply p kept none h b l ends count =
      let test = wakes_seat z.iface.facts (object_of z.iface.facts w.history).rows s.call reply in
      let new = seat_after z.iface.facts w c reply p kept in
      ends_at later (w.history ++ entry_with z.iface.facts w c reply ∷ []) boots (slice_set (woken z.iface.facts w c reply) (c - 1) new) h b l
      (ending_now z.iface w.history (w.history ++ entry_with z.iface.facts w c reply ∷ []) w.run.boots w.seats (slice_set (woken z.iface.facts w c reply) (c - 1) new) c is (length_entered test w.seats c new)
      (others_entered test w.seats c new first last) boots ends count
      (λ holds. absurd (none (ap (λ x. x.phase) (sym (here_entered test w.seats c new first last)) ∙ holds))))

  -- ---- the lines

  returns : (reply : Reply) (later : WorldView) → Returns z w c reply later → Ends later
  returns reply later l =
      boot_entered later w.run.boots reply Idle no_reply (λ a. cc a) (ap (λ x. x.history) l.now) (ap (λ x. x.run.boots) l.now)
      (ap (λ x. x.seats) l.now ∙ answered_seats z.iface.facts w c reply (its (offers_by Held l.phase refl)))
      ((is.held c first last l.phase).used l.boot, quiet_running z.iface.facts w.run.boots (goes_on z.iface.facts w.running w.run.boots cell l.up)) refl

  refuses : (reply : Reply) (later : WorldView) → Refuses z w c reply later → Ends later
  refuses reply later l =
      let test = wakes_seat z.iface.facts (object_of z.iface.facts w.history).rows s.call reply in
      let new = seat_after z.iface.facts w c reply Idle no_reply in
      ends_at later (w.history ++ entry_with z.iface.facts w c reply ∷ []) w.run.boots (slice_set (woken z.iface.facts w c reply) (c - 1) new) (ap (λ x. x.history) l.now) (ap (λ x. x.run.boots) l.now)
      (ap (λ x. x.seats) l.now ∙ answered_seats z.iface.facts w c reply (its (offers_by Asked l.phase refl)))
      (ending_kept z.iface w.history (w.history ++ entry_with z.iface.facts w c reply ∷ []) w.run.boots w.seats (slice_set (woken z.iface.facts w c reply) (c - 1) new) c is (length_entered test w.seats c new)
      (others_entered test w.seats c new first last) (object_refused z.iface.facts w.history s.call reply l.code l.its)
      (λ asked passes. cc (sym l.guarded ∙ passes)) (λ holds. cc (ap (λ x. x.phase) (sym (here_entered test w.seats c new first last)) ∙ holds)))

  struck_count : (item : Item) (stop : ℕ) → length (struck (noted w.run.boots item) stop) ≡ length w.run.boots
  struck_count item stop = length_struck (noted w.run.boots item) stop ∙ length_noted w.run.boots item

  -- its item is a visible reply
  its_reply : (asks : AsksService z w c) → is_visible z.iface.facts s.call.fun ≡ true → is_replied asks.item.outcome ≡ true → is_visible_reply z.iface.facts asks.item ≡ true
  its_reply asks visible replied =
      ap (λ t. is_clients t && is_visible z.iface.facts asks.item.shown.fun && is_replied asks.item.outcome) asks.tag
      ∙ ap (λ (k : Call). true && is_visible z.iface.facts k.fun && is_replied asks.item.outcome) asks.shown
      ∙ ap (λ b. true && b && is_replied asks.item.outcome) visible ∙ ap (λ b. true && true && b) replied

  commits : (between later : WorldView) (boots : List Boot) (l : Commits z w c between) → later.history ≡ between.history → later.run.boots ≡ boots → later.seats ≡ between.seats → EndsWell z.iface.facts boots
      → length boots ≡ length w.run.boots → Ends later
  commits between later boots l h b seats ends count =
      boot_entered later boots l.reply Receipted l.reply (λ a. cc a) (h ∙ ap (λ x. x.history) l.now) b
      (seats ∙ ap (λ x. x.seats) l.now ∙ given_seats z.iface.facts w c l.reply (its (offers_by Asked l.asks.reaches.uses.let_in.phase refl))) ends count

  -- it is kept by each step
  pub ending_step : (did : Did) (later : WorldView) → Steps z w c did later → Ends later
  ending_step Skipped later l = subst Ends (sym l.now) is
  ending_step (Answered reply) later (inl l) =
      seat_changed later (record s { phase = Idle; reply = no_reply }) (other_phase Receipted l.phase (λ a. cc a)) (λ a. cc a) (ap (λ x. x.history) l.now) (ap (λ x. x.run.boots) l.now) (ap (λ x. x.seats) l.now)
  ending_step (Answered reply) later (inr (inl l)) = returns reply later l
  ending_step (Answered reply) later (inr (inr l)) = refuses reply later l
  ending_step Lost later l =
      seat_changed later (record s { phase = Asked }) (other_phase Held l.phase (λ a. cc a)) (λ a. cc a) (ap (λ x. x.history) l.now) (ap (λ x. x.run.boots) l.now) (ap (λ x. x.seats) l.now)
  ending_step Booted later l = subst Ends (sym l.now) (ending_booted z.iface w.history w.run.boots w.seats c first last l.let_in.phase l.let_in.passes is)
  ending_step Struck later (inl l) =
      let stop = asked_after w.run.points 1 in
      boot_struck later (struck w.run.boots stop) l.uses.let_in (ap (λ x. x.history) l.now) (ap (λ x. x.run.boots) l.now) (ap (λ x. x.seats) l.now) (length_struck w.run.boots stop) (asked_struck w.run.boots stop)
  ending_step Struck later (inr (inl l)) =
      let stop = l.item.points in
      boot_struck later (struck (noted w.run.boots l.item) stop) l.uses.let_in (ap (λ x. x.history) l.now) (ap (λ x. x.run.boots) l.now) (ap (λ x. x.seats) l.now) (struck_count l.item stop)
      (λ asked. asked_struck (noted w.run.boots l.item) stop (asked_noted w.run.boots l.item))
  ending_step Struck later (inr (inr (inl l))) =
      let item = l.asks.item in
      boot_struck later (struck (noted w.run.boots item) item.points) l.asks.reaches.uses.let_in (ap (λ x. x.history) l.now) (ap (λ x. x.run.boots) l.now) (ap (λ x. x.seats) l.now) (struck_count item item.points)
      (λ asked. asked_struck (noted w.run.boots item) item.points (asked_noted w.run.boots item))
  ending_step Struck later (inr (inr (inr l))) =
      let item = l.commits.asks.item in
      let stop = asked_after item.points 1 in
      commits l.between later (struck (noted w.run.boots item) stop) l.commits (ap (λ x. x.history) l.now)
      (ap (λ x. x.run.boots) l.now ∙ ap (λ (x : WorldView). struck x.run.boots (asked_after x.run.points 1)) l.commits.now) (ap (λ x. x.seats) l.now)
      (asked_struck (noted w.run.boots item) stop (asked_noted w.run.boots item), quiet_after z.iface.facts w.run.boots item (its_reply l.commits.asks l.commits.visible l.commits.outcome)) (struck_count item stop)
  ending_step Replayed later l = boot_noted later l.item l.service l.uses (ap (λ x. x.history) l.now) (ap (λ x. x.run.boots) l.now) (ap (λ x. x.seats) l.now)
  ending_step Loaded later l = boot_noted later l.item l.service l.uses (ap (λ x. x.history) l.now) (ap (λ x. x.run.boots) l.now) (ap (λ x. x.seats) l.now)
  ending_step Waits later l =
      boot_noted_set later l.asks.item l.asks.service (record s { phase = Blocked }) l.asks.reaches.uses (ap (λ x. x.history) l.now) (ap (λ x. x.run.boots) l.now) (ap (λ x. x.seats) l.now) (λ a. absurd (cc a))
  ending_step Served later (inl l) =
      commits l.between later (noted w.run.boots l.commits.asks.item) l.commits (ap (λ x. x.history) l.now) (ap (λ x. x.run.boots) l.now ∙ ap (λ x. x.run.boots) l.commits.now) (ap (λ x. x.seats) l.now)
      (well_noted l.commits.asks.item l.commits.asks.service l.commits.asks.reaches.uses) (length_noted w.run.boots l.commits.asks.item)
  ending_step Served later (inr l) =
      boot_noted_set later l.asks.item l.asks.service (record s { phase = Held; boot = length w.run.boots; reply = l.reply }) l.asks.reaches.uses (ap (λ x. x.history) l.now) (ap (λ x. x.run.boots) l.now) (ap (λ x. x.seats) l.now)
      (λ a. omega arith)

  -- by an offer, and by a leave
  pub ending_free : (later : WorldView) (new : Seat) → (s.phase ≡ Asked → ⊥) → (new.phase ≡ Held → ⊥) → later.history ≡ w.history → later.run.boots ≡ w.run.boots → later.seats ≡ slice_set w.seats (c - 1) new → Ends later
  ending_free later new not none h b l = seat_changed later new not none h b l
