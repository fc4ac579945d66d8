-- Who waits goes on to be woken before it waits again, after each step of a client.
use Rattle.std.proofs.Common.{◌≡◌, ◌≢◌, ◌⊎◌, ℕ, ◌+◌, ◌-◌, ◌≤◌, Bool, true, false, cond, ◌&&◌, List, [], ◌∷◌, ◌++◌, Some, length, map, refl, sym, ◌∙◌, ap, subst, inl, inr, arith, slice_set}
use Rattle.std.specs.Prelude.{◌==◌}
use Rattle.sg_facts.specs.sg_base.Lists.{Each}
use Rattle.sg_facts.specs.sg_base.declared.call.Call.{Call}
use Rattle.sg_facts.specs.sg_base.declared.reply.Code.{Code}
use Rattle.sg_facts.specs.sg_base.declared.reply.Reply.{Reply}
use Rattle.sg_facts.specs.sg_base.declared.reply.Reply.TheVariants.{Ok, Refused}
use Rattle.sg_facts.specs.declared.entry.Entry.{Entry}
use Rattle.sg_facts.specs.declared.row.Row.{Row}
use Rattle.sg_facts.specs.declared.trace.Item.{Item}
use Rattle.sg_facts.specs.declared.trace.Tag.TheVariants.{Client}
use Rattle.sg_facts.specs.Facts.{Facts}
use Rattle.sg_facts.specs.Guard.{guard}
use Rattle.sg_facts.specs.Interface.{Declared}
use Rattle.sg_facts.specs.Legal.{LegalFrom, Table, answer}
use Rattle.sg_facts.specs.Object.{Object, after, object_of}
use Rattle.sg_facts.specs.Inside.Rows.{object_from}
use Rattle.sg_facts.specs.Trace.{Boot}
use Rattle.sg_plain.specs.sg_hist.Reading.{Position, is_by_guard, is_item_of, is_tagged, last_items, older_items, places_from, last_places}
use Rattle.sg_plain.specs.sg_hist.Recovered.{is_clients}
use Rattle.sg_plain.specs.sg_hist.Wakes.{has_blocked, wakes, wakes_at}
use Rattle.sg_plain.specs.Inside.Kept.{IsWokenBetween}
use Rattle.sg_play.specs.Recovering.{RecoversSoFar}
use Rattle.sg_plain.proofs.sg_clients.Lines.{same_or_other}
use Rattle.sg_plain.specs.Playing.Callers.{IsCaller}
use Rattle.sg_plain.specs.Playing.Plays.{IsPlaying}
use Rattle.sg_plain.proofs.sg_hist.Growing.{places-booted, places-struck}
use Rattle.sg_plain.specs.sg_hist.Growing.{IsGrown, IsOfNoEntry, booted, noted, struck}
use Rattle.sg_plain.specs.sg_script.declared.script.Script.{Script}
use Rattle.sg_plain.specs.sg_clients.WorldView.{Seat, WorldView, is_blocked_phase, is_held_phase, is_offered, seat_in, seat_of, wakes_seat, woken_seat}
use Rattle.sg_plain.specs.sg_clients.declared.phase.Phase.{Phase}
use Rattle.sg_plain.specs.sg_clients.declared.phase.Phase.TheVariants.{Idle, Asked, Held, Receipted, Blocked, Left}
use Rattle.sg_world.specs.sg_recovery_laws.LastItem.LastPlace.{last_place}
use Rattle.sg_play.proofs.Waking.Between.{between_same, own_tag}
use Rattle.sg_play.proofs.Waking.Calls.{entries_below, fit_call}
use Rattle.sg_world.proofs.sg_world_laws.Ending.Calls.{none_of_next, none_of_stub, test_same}
use Rattle.sg_play.proofs.Waking.Items.{have_items}
use Rattle.sg_play.proofs.Waking.Private.{unwoken}
use Rattle.sg_world.proofs.sg_world_laws.Ending.Seats.{each_entered, each_set, each_woken}
use Rattle.sg_play.proofs.Waking.Shapes.{call_is_next, call_is_own}
use Rattle.sg_world.proofs.sg_world_laws.Ending.Shapes.{entry_with, seat_after, woken}
use Rattle.sg_world.proofs.sg_world_laws.Ending.Wakers.{wakes_entered, wakes_last, wakes_noted, wakes_refused}
use Rattle.sg_play.proofs.Waking.Woken.{Moves, all_noted, goes_on_waits, moves_free, moves_same, other_made, other_waits, seat_booted, seat_moved, seat_noted, seat_struck, seat_woken_by, stub_made, stub_waits}
use Rattle.sg_plain.specs.Answering.{no_query_waits}
use Rattle.sg_play.specs.Waking.Waking.{AreWokenSoFar, IsMadeSoFar, IsWokenSeat, IsWokenSince, is_asking}
use Rattle.sg_world.specs.sg_world_laws.Ending.{EachSeat}
use Rattle.sg_plain.specs.sg_hist.Inside.Parts.{waking_entries}
use Rattle.sg_world.proofs.sg_world_laws.Refusing.{by_the_guard}
use Rattle.sg_world.specs.sg_world_laws.Setting.{Setting}

-- ---- replies

-- the last entry of a legal history has the answer after the others
pub legal_last : (i : Declared) (ask : Table) (o : Object) (history : List Entry) (e : Entry) → LegalFrom i ask o (history ++ e ∷ []) → answer i ask (object_from i.facts o history) e.call ≡ Some e.reply
legal_last i ask o [] e legal = legal.0
legal_last i ask o (x ∷ history) e legal = legal_last i ask (after i.facts o x.call x.reply) history e legal.1

ok_wakes : (facts : Facts) (rows : List Row) (call other : Call) (reply : Reply) → wakes_seat facts rows call reply other ≡ true → (is_by_guard reply ≡ false) × (wakes facts rows call reply other.desc ≡ true)
ok_wakes facts rows call other (Refused code) is = absurd (cc is)
ok_wakes facts rows call other (Ok good) is = (refl, is)

-- a seat that a test wakes, or doesn't
woken_tells : (test : Call → Bool) (s : Seat) → (woken_seat test s ≡ s) ⊎ ((s.phase ≡ Blocked) × (test s.call ≡ true) × (woken_seat test s ≡ record s { phase = Asked }))
woken_tells test s = by (is_blocked_phase s.phase) refl (test s.call) refl
  where
    blocked : (p : Phase) → is_blocked_phase p ≡ true → p ≡ Blocked
    blocked Blocked is = refl
    blocked Idle is = absurd (cc is)
    blocked Asked is = absurd (cc is)
    blocked Held is = absurd (cc is)
    blocked Receipted is = absurd (cc is)
    blocked Left is = absurd (cc is)

    by : (b : Bool) → is_blocked_phase s.phase ≡ b → (t : Bool) → test s.call ≡ t → (woken_seat test s ≡ s) ⊎ ((s.phase ≡ Blocked) × (test s.call ≡ true) × (woken_seat test s ≡ record s { phase = Asked }))
    by false is t met = inl (ap (λ b. cond (b && test s.call) (record s { phase = Asked }) s) is)
    by true is false met = inl (ap (λ b. cond (b && test s.call) (record s { phase = Asked }) s) is ∙ ap (λ b. cond b (record s { phase = Asked }) s) met)
    by true is true met = inr (blocked s.phase is, met, ap (λ b. cond (b && test s.call) (record s { phase = Asked }) s) is ∙ ap (λ b. cond b (record s { phase = Asked }) s) met)

-- one seat changes
pub woken_set : (facts : Facts) (history : List Entry) (boots : List Boot) (seats : List Seat) (c : ℕ) (new : Seat) → 1 ≤ c → c ≤ length seats → Moves facts (seat_in seats c) new
    → AreWokenSoFar facts history boots seats → AreWokenSoFar facts history boots (slice_set seats (c - 1) new)
woken_set facts history boots seats c new first last moves is =
    let entries : List Entry = waking_entries facts history in
    record {
      woken = is.woken;
      each = each_set (IsWokenSeat facts entries boots) seats c new first last (seat_moved facts entries entries boots c (seat_in seats c) new (λ id p. refl) (is.each c first last) moves)
          (λ client from to other. is.each client from to);
    }

module _ (z : Setting) (script : Script) (x : WorldView) (given : List (List ℕ)) (c : ℕ) (first : 1 ≤ c) (last : c ≤ length x.seats) (playing : IsPlaying z.iface script x.history x.seats given)
    (before : RecoversSoFar z x) (queries : no_query_waits z.iface.facts ≡ true) (is : AreWokenSoFar z.iface.facts x.history x.run.boots x.seats) where
  abbrev facts : Facts
  facts = z.iface.facts

  abbrev s : Seat
  s = seat_of x c

  abbrev boots : List Boot
  boots = x.run.boots

  abbrev old : List Entry
  old = waking_entries facts x.history

  caller : (client : ℕ) → 1 ≤ client → client ≤ length x.seats → IsCaller facts script x.history client (seat_of x client)
  caller client from to = playing.callers.each client from to

  offers_by : (p : Phase) → s.phase ≡ p → is_offered p ≡ true → is_offered s.phase ≡ true
  offers_by p was offers = ap is_offered was ∙ offers

  next_number : is_offered s.phase ≡ true → s.call.seq ≡ s.seq + 1
  next_number offers = call_is_next facts script x.history c s (caller c first last) offers

  -- ---- an item is noted

  none_waking : (item : Item) → IsOfNoEntry item x.history → IsOfNoEntry item old
  none_waking item none = by facts.global
    where
      by : (g : Bool) → IsOfNoEntry item (cond g x.history [])
      by true = none
      by false = tt

  same_noted : (item : Item) → IsOfNoEntry item x.history → (id : ℕ) (p q : Position) → IsGrown item p q → wakes_at facts old id q ≡ wakes_at facts old id p
  same_noted item none id p q g = wakes_noted facts id item p q old (none_waking item none) g

  -- one that rebuilds or loads
  pub line_stub : (item : Item) → is_clients item.tag ≡ false → AreWokenSoFar facts x.history (noted boots item) x.seats
  line_stub item stub =
      let none = none_of_stub item x.history stub in
      record {
        woken = all_noted facts old old item (same_noted item none) boots before.recovering.reboots.booted is.woken (λ client seq waits. absurd (let not_so = stub_waits client seq item stub in cc (not_so, waits)));
        each = λ client from to.
            seat_noted facts old old item (same_noted item none) boots before.recovering.reboots.booted client (seat_of x client) (seat_of x client) (is.each client from to) (moves_same facts (seat_of x client))
            (stub_made client (seat_of x client) item.shown item.tag stub) (λ asks. stub_waits client (seat_of x client).call.seq item stub);
      }

  module _ (item : Item) (tag : item.tag ≡ Client c s.call.seq) (shown : item.shown ≡ s.call) (offers : is_offered s.phase ≡ true) where
    none_item : IsOfNoEntry item x.history
    none_item = none_of_next item c s.call.seq s.seq x.history tag (omega (arith, next_number offers)) (entries_below facts script x.history c s (caller c first last))

    own_made : (later : Seat) → (s.call.seq ≤ later.seq) ⊎ ((is_offered later.phase ≡ true) × (later.call ≡ s.call)) → IsMadeSoFar c later item.shown item.tag
    own_made later made = subst (IsMadeSoFar c later item.shown) (sym tag) (λ own. by made)
      where
        by : (s.call.seq ≤ later.seq) ⊎ ((is_offered later.phase ≡ true) × (later.call ≡ s.call)) → (s.call.seq ≤ later.seq) ⊎ ((is_offered later.phase ≡ true) × (s.call.seq ≡ later.call.seq) × (item.shown ≡ later.call))
        by (inl done) = inl done
        by (inr its) = inr (its.0, ap (λ k. k.seq) (sym its.1), shown ∙ sym its.1)

    again_own : is_asking s.phase ≡ true → (client seq : ℕ) → (is_tagged client seq item.tag && has_blocked item.outcome) ≡ true → Each (IsWokenSince facts old client seq) (last_places boots)
    again_own asks client seq waits =
        let both = parts (is_tagged client seq item.tag) (has_blocked item.outcome) waits in
        let test : ((c == client) && (s.call.seq == seq)) ≡ true = ap (is_tagged client seq) (sym tag) ∙ both.0 in
        let tests = parts (c == client) (s.call.seq == seq) test in
        subst (λ n. Each (IsWokenSince facts old n seq) (last_places boots)) (test_same c client tests.0)
        (subst (λ n. Each (IsWokenSince facts old c n) (last_places boots)) (test_same s.call.seq seq tests.1) ((is.each c first last).since asks))
      where
        parts : (a b : Bool) → (a && b) ≡ true → (a ≡ true) × (b ≡ true)
        parts true b is = (refl, is)
        parts false b is = absurd (cc is)

    others_still : (client : ℕ) → 1 ≤ client → client ≤ length x.seats → client ≢ c → IsWokenSeat facts old (noted boots item) client (seat_of x client)
    others_still client from to other =
        seat_noted facts old old item (same_noted item none_item) boots before.recovering.reboots.booted client (seat_of x client) (seat_of x client) (is.each client from to) (moves_same facts (seat_of x client))
        (other_made client c s.call.seq (seat_of x client) item tag other) (λ asks. other_waits client (seat_of x client).call.seq c s.call.seq item tag other)

    own_noted : (new : Seat) → Moves facts s new → (is_offered new.phase ≡ true) × (new.call ≡ s.call) → (is_asking new.phase ≡ true → has_blocked item.outcome ≡ false) → IsWokenSeat facts old (noted boots item) c new
    own_noted new moves offered goes =
        seat_noted facts old old item (same_noted item none_item) boots before.recovering.reboots.booted c s new (is.each c first last) moves (own_made new (inr offered)) (λ asks. goes_on_waits c new.call.seq item (goes asks))

    -- one of the client, whose seat is another then
    pub line_noted : (new : Seat) → is_asking s.phase ≡ true → Moves facts s new → (is_offered new.phase ≡ true) × (new.call ≡ s.call) → (is_asking new.phase ≡ true → has_blocked item.outcome ≡ false)
        → AreWokenSoFar facts x.history (noted boots item) (slice_set x.seats (c - 1) new)
    line_noted new asks moves offered goes = record {
      woken = all_noted facts old old item (same_noted item none_item) boots before.recovering.reboots.booted is.woken (again_own asks);
      each = each_set (IsWokenSeat facts old (noted boots item)) x.seats c new first last (own_noted new moves offered goes) (λ client from to other. others_still client from to other);
    }

    -- or stays
    pub line_stopped : is_asking s.phase ≡ true → has_blocked item.outcome ≡ false → AreWokenSoFar facts x.history (noted boots item) x.seats
    line_stopped asks goes = record {
      woken = all_noted facts old old item (same_noted item none_item) boots before.recovering.reboots.booted is.woken (again_own asks);
      each = λ client from to. at client from to (same_or_other client c);
    }
      where
        at : (client : ℕ) → 1 ≤ client → client ≤ length x.seats → (client ≡ c) ⊎ (client ≢ c) → IsWokenSeat facts old (noted boots item) client (seat_of x client)
        at client from to (inl own) = subst (λ n. IsWokenSeat facts old (noted boots item) n (seat_of x n)) (sym own) (own_noted s (moves_same facts s) (offers, refl) (λ asks. goes))
        at client from to (inr other) = others_still client from to other

  -- ---- an entry is made

  abbrev now_with : Reply → List Entry
  now_with reply = waking_entries facts (x.history ++ entry_with facts x c reply ∷ [])

  abbrev test_of : Reply → Call → Bool
  test_of reply other = wakes_seat facts (object_of facts x.history).rows s.call reply other

  abbrev NobodyWoken : Reply → Type 0
  NobodyWoken reply = EachSeat (λ client t. client ≢ c → t.phase ≡ Blocked → test_of reply t.call ≡ false) x.seats

  -- it is entered without an item, and wakes nobody
  line_entered : (reply : Reply) (p : Phase) (kept : Reply) → is_offered s.phase ≡ true → is_asking p ≡ false → is_held_phase p ≡ false → ((id : ℕ) (q : Position) → wakes_at facts (now_with reply) id q ≡ wakes_at facts old id q)
      → NobodyWoken reply → AreWokenSoFar facts (x.history ++ entry_with facts x c reply ∷ []) boots (slice_set (woken facts x c reply) (c - 1) (seat_after facts x c reply p kept))
  line_entered reply p kept offers not_asking free same nobody = record {
    woken = between_same facts old (now_with reply) same (places_from [] boots) is.woken;
    each = each_entered (IsWokenSeat facts (now_with reply) boots) (test_of reply) x.seats c (seat_after facts x c reply p kept) first last
        (seat_moved facts old (now_with reply) boots c s (seat_after facts x c reply p kept) same (is.each c first last)
        (moves_free facts s (seat_after facts x c reply p kept) (omega (arith, next_number offers)) (λ was. omega arith) not_asking free))
        (λ client from to other. at client from to other (woken_tells (test_of reply) (seat_of x client)));
  }
    where
      at : (client : ℕ) → 1 ≤ client → client ≤ length x.seats → client ≢ c
          → (woken_seat (test_of reply) (seat_of x client) ≡ seat_of x client) ⊎ (((seat_of x client).phase ≡ Blocked) × (test_of reply (seat_of x client).call ≡ true) × (woken_seat (test_of reply) (seat_of x client) ≡ record (seat_of x client) { phase = Asked }))
          → IsWokenSeat facts (now_with reply) boots client (woken_seat (test_of reply) (seat_of x client))
      at client from to other (inl stays) =
          subst (IsWokenSeat facts (now_with reply) boots client) (sym stays)
          (seat_moved facts old (now_with reply) boots client (seat_of x client) (seat_of x client) same (is.each client from to) (moves_same facts (seat_of x client)))
      at client from to other (inr met) = absurd (let none = nobody client from to other met.0 in let has = met.1 in cc (none, has))

  -- in a private service an answered call wakes nobody
  nobody_in_private : facts.global ≡ false → (reply : Reply) → is_offered s.phase ≡ true → answer z.iface z.ask (object_of facts x.history) s.call ≡ Some reply → NobodyWoken reply
  nobody_in_private alone reply offers answered client from to other blocked =
      let t = seat_of x client in
      let offered : is_offered t.phase ≡ true = ap is_offered blocked in
      unwoken z.iface z.ask z.sound before.set.law alone queries x.history before.legal s.call t.call reply
      (fit_call z.iface script x.history c s before.set.fits (playing.playable.fit c) (caller c first last) offers)
      (fit_call z.iface script x.history client t before.set.fits (playing.playable.fit client) (caller client from to) offered)
      (λ same. other (sym (call_is_own facts script x.history client t (caller client from to) offered) ∙ sym same ∙ call_is_own facts script x.history c s (caller c first last) offers))
      answered (before.waits client from to blocked)

  same_in_private : facts.global ≡ false → (reply : Reply) → now_with reply ≡ old
  same_in_private alone reply = ap (λ g. cond g (x.history ++ entry_with facts x c reply ∷ []) []) alone ∙ sym (ap (λ g. cond g x.history []) alone)

  -- a held reply is returned
  pub line_returned : (reply : Reply) (kept : Reply) → s.phase ≡ Held → answer z.iface z.ask (object_of facts x.history) s.call ≡ Some reply
      → AreWokenSoFar facts (x.history ++ entry_with facts x c reply ∷ []) boots (slice_set (woken facts x c reply) (c - 1) (seat_after facts x c reply Idle kept))
  line_returned reply kept held answered = by facts.global refl
    where
      by : (g : Bool) → facts.global ≡ g → AreWokenSoFar facts (x.history ++ entry_with facts x c reply ∷ []) boots (slice_set (woken facts x c reply) (c - 1) (seat_after facts x c reply Idle kept))
      by true all = absurd (let none = (is.each c first last).visible all in let some : is_held_phase s.phase ≡ true = ap is_held_phase held in cc (none, some))
      by false alone =
          line_entered reply Idle kept (offers_by Held held refl) refl refl (λ id q. ap (λ es. wakes_at facts es id q) (same_in_private alone reply)) (nobody_in_private alone reply (offers_by Held held refl) answered)

  -- the guard refuses
  pub line_refused : (reply : Reply) (code : Code) (kept : Reply) → s.phase ≡ Asked → guard z.iface (object_of facts x.history) s.call ≡ Some code → reply ≡ Refused code
      → AreWokenSoFar facts (x.history ++ entry_with facts x c reply ∷ []) boots (slice_set (woken facts x c reply) (c - 1) (seat_after facts x c reply Idle kept))
  line_refused reply code kept asked guarded its =
      line_entered reply Idle kept (offers_by Asked asked refl) refl refl (λ id q. by id q facts.global)
      (λ client from to other blocked. ap (λ r. wakes_seat facts (object_of facts x.history).rows s.call r (seat_of x client).call) its)
    where
      guards : is_by_guard reply ≡ true
      guards = ap is_by_guard its ∙ by_the_guard z.iface (object_of facts x.history) s.call code guarded

      by : (id : ℕ) (q : Position) (g : Bool) → wakes_at facts (cond g (x.history ++ entry_with facts x c reply ∷ []) []) id q ≡ wakes_at facts (cond g x.history []) id q
      by id q true = wakes_refused facts id q x.history (entry_with facts x c reply) guards
      by id q false = refl

  -- an item is noted with its entry
  module _ (item : Item) (tag : item.tag ≡ Client c s.call.seq) (shown : item.shown ≡ s.call) (asked : s.phase ≡ Asked) (reply : Reply) (goes : has_blocked item.outcome ≡ false)
      (answered : answer z.iface z.ask (object_of facts x.history) s.call ≡ Some reply) where
    offers : is_offered s.phase ≡ true
    offers = offers_by Asked asked refl

    none_entered : IsOfNoEntry item x.history
    none_entered = none_item item tag shown offers

    own_item : is_item_of (entry_with facts x c reply) item ≡ true
    own_item =
        ap (is_tagged s.call.client s.call.seq) tag ∙ ap (λ n. is_tagged n s.call.seq (Client c s.call.seq)) (call_is_own facts script x.history c s (caller c first last) offers) ∙ own_tag c s.call.seq

    same_entered : (id : ℕ) (p q : Position) → IsGrown item p q → wakes_at facts (now_with reply) id q ≡ wakes_at facts old id p
    same_entered id p q g = by facts.global
      where
        by : (b : Bool) → wakes_at facts (cond b (x.history ++ entry_with facts x c reply ∷ []) []) id q ≡ wakes_at facts (cond b x.history []) id p
        by true = wakes_entered facts id item p q x.history (entry_with facts x c reply) none_entered own_item g
        by false = refl

    wakes_here : facts.global ≡ true → (other : Call) → test_of reply other ≡ true → wakes_at facts (now_with reply) other.desc (last_place (older_items [] boots) (last_items boots) item) ≡ true
    wakes_here all other met =
        let ok = ok_wakes facts (object_of facts x.history).rows s.call other reply met in
        ap (λ g. wakes_at facts (cond g (x.history ++ entry_with facts x c reply ∷ []) []) other.desc (last_place (older_items [] boots) (last_items boots) item)) all
        ∙ wakes_last facts other.desc (older_items [] boots) (last_items boots) item x.history (entry_with facts x c reply) none_entered
        (have_items facts x.history x.run before.recovering.served.items) own_item ok.0 ok.1

    pub line_committed : AreWokenSoFar facts (x.history ++ entry_with facts x c reply ∷ []) (noted boots item) (slice_set (woken facts x c reply) (c - 1) (seat_after facts x c reply Receipted reply))
    line_committed = record {
      woken = all_noted facts old (now_with reply) item same_entered boots before.recovering.reboots.booted is.woken (λ client seq waits. absurd (let not_so = goes_on_waits client seq item goes in cc (not_so, waits)));
      each = each_entered (IsWokenSeat facts (now_with reply) (noted boots item)) (test_of reply) x.seats c (seat_after facts x c reply Receipted reply) first last
          (seat_noted facts old (now_with reply) item same_entered boots before.recovering.reboots.booted c s (seat_after facts x c reply Receipted reply) (is.each c first last)
          (moves_free facts s (seat_after facts x c reply Receipted reply) (omega (arith, next_number offers)) (λ was. omega arith) refl refl)
          (own_made item tag shown offers (seat_after facts x c reply Receipted reply) (inl (omega arith))) (λ asks. absurd (cc asks)))
          (λ client from to other. at client from to other (woken_tells (test_of reply) (seat_of x client)));
    }
      where
        woken_now : (client : ℕ) → 1 ≤ client → client ≤ length x.seats → client ≢ c → (seat_of x client).phase ≡ Blocked → test_of reply (seat_of x client).call ≡ true → (g : Bool) → facts.global ≡ g
            → IsWokenSeat facts (now_with reply) (noted boots item) client (record (seat_of x client) { phase = Asked })
        woken_now client from to other blocked met false alone = absurd (let none = nobody_in_private alone reply offers answered client from to other blocked in cc (none, met))
        woken_now client from to other blocked met true all =
            seat_woken_by facts old (now_with reply) item same_entered boots before.recovering.reboots.booted client (seat_of x client) blocked
            (call_is_next facts script x.history client (seat_of x client) (caller client from to) (ap is_offered blocked)) (is.each client from to)
            (other_made client c s.call.seq (record (seat_of x client) { phase = Asked }) item tag other) (other_waits client (seat_of x client).call.seq c s.call.seq item tag other)
            (wakes_here all (seat_of x client).call met)

        at : (client : ℕ) → 1 ≤ client → client ≤ length x.seats → client ≢ c
            → (woken_seat (test_of reply) (seat_of x client) ≡ seat_of x client) ⊎ (((seat_of x client).phase ≡ Blocked) × (test_of reply (seat_of x client).call ≡ true) × (woken_seat (test_of reply) (seat_of x client) ≡ record (seat_of x client) { phase = Asked }))
            → IsWokenSeat facts (now_with reply) (noted boots item) client (woken_seat (test_of reply) (seat_of x client))
        at client from to other (inl stays) =
            subst (IsWokenSeat facts (now_with reply) (noted boots item) client) (sym stays)
            (seat_noted facts old (now_with reply) item same_entered boots before.recovering.reboots.booted client (seat_of x client) (seat_of x client) (is.each client from to) (moves_same facts (seat_of x client))
            (other_made client c s.call.seq (seat_of x client) item tag other) (λ asks. other_waits client (seat_of x client).call.seq c s.call.seq item tag other))
        at client from to other (inr met) =
            subst (IsWokenSeat facts (now_with reply) (noted boots item) client) (sym met.2) (woken_now client from to other met.0 met.1 facts.global refl)

-- ---- boots

-- the service is booted
pub woken_booted : (facts : Facts) (history : List Entry) (boots : List Boot) (seats : List Seat) → AreWokenSoFar facts history boots seats
    → AreWokenSoFar facts history (booted boots) (map (woken_seat (λ call. true)) seats)
woken_booted facts history boots seats is = record {
  woken = subst (Each (λ p. IsWokenBetween facts (waking_entries facts history) p p.item.tag)) (sym (places-booted [] boots)) is.woken;
  each = each_woken (IsWokenSeat facts (waking_entries facts history) (booted boots)) (λ call. true) seats
      (λ client from to. seat_booted facts (waking_entries facts history) boots client (woken_seat (λ call. true) (seat_in seats client))
      (λ all. by client ((is.each client from to).visible all) (woken_tells (λ call. true) (seat_in seats client))));
}
  where
    by : (client : ℕ) → is_held_phase (seat_in seats client).phase ≡ false
        → (woken_seat (λ call. true) (seat_in seats client) ≡ seat_in seats client) ⊎ (((seat_in seats client).phase ≡ Blocked) × (true ≡ true) × (woken_seat (λ call. true) (seat_in seats client) ≡ record (seat_in seats client) { phase = Asked }))
        → is_held_phase (woken_seat (λ call. true) (seat_in seats client)).phase ≡ false
    by client none (inl stays) = ap (λ (t : Seat). is_held_phase t.phase) stays ∙ none
    by client none (inr met) = ap (λ (t : Seat). is_held_phase t.phase) met.2

-- the service stops
pub woken_struck : (facts : Facts) (history : List Entry) (boots : List Boot) (seats : List Seat) (stop : ℕ) → AreWokenSoFar facts history boots seats → AreWokenSoFar facts history (struck boots stop) seats
woken_struck facts history boots seats stop is = record {
  woken = subst (Each (λ p. IsWokenBetween facts (waking_entries facts history) p p.item.tag)) (sym (places-struck [] boots stop)) is.woken;
  each = λ client from to. seat_struck facts (waking_entries facts history) boots stop client (seat_in seats client) (is.each client from to);
}
