-- A reply that is no entry's is held by its client, or was lost in a stop, after each event of a world.
use Rattle.std.proofs.Common.{◌≡◌, ◌≢◌, ◌⊎◌, ℕ, ◌-◌, ◌≤◌, Bool, true, false, not, ◌&&◌, List, [], ◌∷◌, ◌++◌, None, Some, IsSome, length, map, refl, sym, ◌∙◌, ap, subst, inl, inr, slice_set, append-nil}
use Rattle.std.specs.declared.option.Option.{Option}
use Rattle.std.specs.Prelude.{◌==◌}
use Rattle.std.specs.List.{list_any}
use Rattle.sg_facts.specs.sg_base.Lists.{When}
use Rattle.sg_facts.specs.sg_base.Stops.{asked_after}
use Rattle.sg_facts.specs.sg_base.declared.call.Call.{Call}
use Rattle.sg_facts.specs.sg_base.declared.reply.Reply.{Reply}
use Rattle.sg_facts.specs.sg_base.declared.reply.Reply.TheVariants.{Ok, Refused}
use Rattle.sg_facts.specs.declared.entry.Entry.{Entry}
use Rattle.sg_facts.specs.declared.trace.Item.{Item}
use Rattle.sg_facts.specs.declared.trace.Tag.{Tag}
use Rattle.sg_facts.specs.declared.trace.Tag.TheVariants.{Client}
use Rattle.sg_facts.specs.Legal.{answer}
use Rattle.sg_facts.specs.Inside.Rows.{refused_or}
use Rattle.sg_facts.specs.Object.{Object, object_of}
use Rattle.sg_facts.specs.Trace.{Boot}
use Rattle.sg_replay.specs.sg_boot.Cells.{IsCell, IsRunning}
use Rattle.sg_replay.specs.sg_hist.Ending.{AreLost, client_of}
use Rattle.sg_replay.specs.sg_hist.Inside.Parts.{is_unentered}
use Rattle.sg_replay.specs.sg_hist.Growing.{IsGrown, IsOfNoEntry, booted, last_stop, noted, struck}
use Rattle.sg_replay.specs.sg_hist.Reading.{Position, is_by_guard, is_item_of, is_tagged}
use Rattle.sg_replay.specs.sg_hist.Recovered.{is_clients, is_replied}
use Rattle.sg_world_laws.proofs.sg_clients.Lines.{length_set, same_or_other, seat_here, seat_there, seat_woken}
use Rattle.sg_world_laws.specs.sg_clients.WorldView.{Seat, WorldView, is_offered, no_reply, seat_in, seat_of, wakes_seat, woken_seat}
use Rattle.sg_world_laws.specs.sg_clients.declared.phase.Phase.{Phase}
use Rattle.sg_world_laws.specs.sg_clients.declared.phase.Phase.TheVariants.{Idle, Asked, Held, Receipted, Blocked}
use Rattle.sg_world_laws.proofs.Ending.Boots.{length_noted, length_struck}
use Rattle.sg_world_laws.proofs.Ending.Calls.{none_of_stub, own_tag}
use Rattle.sg_world_laws.proofs.Ending.Ended.{goes_on}
use Rattle.sg_world_laws.proofs.Ending.Lost.{entered_own, fewer_committed, fewer_entered, fewer_noted, free_item, holds_on, last_at, lost_booted, lost_moved, lost_noted, lost_over, lost_struck, none_of_client, quiet_noted}
use Rattle.sg_world_laws.proofs.Ending.Seats.{length_entered}
use Rattle.sg_world_laws.proofs.Ending.Shapes.{answered_seats, entry_with, given_seats, seat_after, woken}
use Rattle.sg_world_laws.proofs.Woken.{woken_is}
use Rattle.sg_world_laws.specs.Ending.{AreLostSoFar, HoldsReply, IsHeldOrLost}
use Rattle.sg_world_laws.specs.Setting.{IsSetting, Setting}
use Rattle.sg_world.specs.declared.did.Did.{Did}
use Rattle.sg_world.specs.declared.did.Did.TheVariants.{Answered, Blocked as Waits, Booted, Loaded, Lost, Replayed, Served, Skipped, Struck}
use Rattle.sg_world.specs.Steps.{AsksService, Commits, PassesGuard, Steps, UsesService}

-- ---- boots, however they are given

abbrev no_stop : Option ℕ
no_stop = None

abbrev pub LostIn : List Entry → List Seat → List Boot → Type 0
LostIn h seats boots = AreLostSoFar h seats (length boots) [] boots

-- with the same number of boots
recount : (h : List Entry) (seats : List Seat) (boots now : List Boot) → length now ≡ length boots → AreLostSoFar h seats (length boots) [] now → LostIn h seats now
recount h seats boots now count is = subst (λ n. AreLostSoFar h seats n [] now) (sym count) is

struck_in : (h : List Entry) (seats : List Seat) (boots : List Boot) (stop : ℕ) → LostIn h seats boots → LostIn h seats (struck boots stop)
struck_in h seats [] stop is = tt
struck_in h seats (b ∷ boots) stop is = recount h seats (b ∷ boots) (struck (b ∷ boots) stop) (length_struck (b ∷ boots) stop) (lost_struck h seats (length (b ∷ boots)) [] b boots stop is)

booted_in : (h : List Entry) (seats later : List Seat) (boots : List Boot) → IsSome (last_stop boots) → LostIn h seats boots → LostIn h later (booted boots)
booted_in h seats later [] stopped is = tt
booted_in h seats later (b ∷ boots) stopped is = lost_booted h seats (length (b ∷ boots)) later (length (booted (b ∷ boots))) [] b boots stopped is

-- where nobody holds a reply
pub over_in : (h : List Entry) (seats : List Seat) (boots : List Boot) → ((client : ℕ) → 1 ≤ client → client ≤ length seats → (seat_in seats client).phase ≡ Held → ⊥) → LostIn h seats boots → AreLost h [] boots
over_in h seats [] nobody is = tt
over_in h seats (b ∷ boots) nobody is = lost_over h seats (length (b ∷ boots)) (λ tag holds. nobody holds.client holds.first holds.last holds.phase) [] b boots is

-- ---- seats

-- a seat that holds a reply isn't woken
held_same : (test : Call → Bool) (s : Seat) → s.phase ≡ Held → woken_seat test s ≡ s
held_same test s held = by (woken_is test s)
  where
    by : (woken_seat test s ≡ s) ⊎ ((s.phase ≡ Blocked) × (woken_seat test s ≡ record s { phase = Asked })) → woken_seat test s ≡ s
    by (inl same) = same
    by (inr was) = absurd (cc (sym held ∙ was.0))

-- the seats change of a client, and of others that hold no reply
record AreOthers (seats : List Seat) (c : ℕ) (later : List Seat) : Type 0 where
  count : length later ≡ length seats
  same : (client : ℕ) → 1 ≤ client → client ≢ c → (seat_in seats client).phase ≡ Held → seat_in later client ≡ seat_in seats client

others_stay : (seats : List Seat) (c : ℕ) → AreOthers seats c seats
others_stay seats c = record { count = refl; same = λ client from other held. refl }

others_set : (seats : List Seat) (c : ℕ) (new : Seat) → 1 ≤ c → AreOthers seats c (slice_set seats (c - 1) new)
others_set seats c new first = record { count = length_set seats (c - 1) new; same = λ client from other held. seat_there seats c client new first from other }

others_entered : (test : Call → Bool) (seats : List Seat) (c : ℕ) (new : Seat) → 1 ≤ c → AreOthers seats c (slice_set (map (woken_seat test) seats) (c - 1) new)
others_entered test seats c new first = record {
  count = length_entered test seats c new;
  same = λ client from other held. seat_there (map (woken_seat test) seats) c client new first from other ∙ seat_woken test seats client ∙ held_same test (seat_in seats client) held;
}

-- a client that doesn't hold a reply changes, and none that does
module _ (h now : List Entry) (seats later : List Seat) (c : ℕ) (others : AreOthers seats c later) (free : (seat_in seats c).phase ≡ Held → ⊥) where
  not_it : (client : ℕ) → (seat_in seats client).phase ≡ Held → client ≢ c
  not_it client held same = free (ap (λ n. (seat_in seats n).phase) (sym same) ∙ held)

  holds_still : (boot : ℕ) (tag : Tag) → HoldsReply seats boot tag → HoldsReply later boot tag
  holds_still boot tag holds = holds_on seats later boot tag holds others.count (others.same holds.client holds.first (not_it holds.client holds.phase) holds.phase)

  -- no item is noted
  seats_moved : ((p : Position) → is_unentered now p ≡ true → is_unentered h p ≡ true) → (boots : List Boot) → LostIn h seats boots → LostIn now later boots
  seats_moved fewer [] is = tt
  seats_moved fewer (b ∷ boots) is =
      lost_moved h now seats later (length (b ∷ boots)) (last_stop (b ∷ boots)) fewer
      (λ older front rest x unentered old. record { quiet = old.quiet; gone = by x.tag old.gone }) [] b boots refl is
    where
      by : (tag : Tag) → IsSome (last_stop (b ∷ boots)) ⊎ HoldsReply seats (length (b ∷ boots)) tag → IsSome (last_stop (b ∷ boots)) ⊎ HoldsReply later (length (b ∷ boots)) tag
      by tag (inl some) = inl some
      by tag (inr holds) = inr (holds_still (length (b ∷ boots)) tag holds)

  -- an item of its turn is noted
  seats_noted : (item : Item) → client_of item.tag ≡ c → ((p q : Position) → IsGrown item p q → is_unentered now q ≡ true → is_unentered h p ≡ true) → (boots : List Boot) → last_stop boots ≡ None
      → ((older front : List Item) → When (is_unentered now (last_at older front item [])) (IsHeldOrLost later (length boots) None (last_at older front item [])))
      → LostIn h seats boots → LostIn now later (noted boots item)
  seats_noted item its fewer [] running own is = tt
  seats_noted item its fewer (b ∷ boots) running own is =
      recount now later (b ∷ boots) (noted (b ∷ boots) item) (length_noted (b ∷ boots) item)
      (lost_noted h now seats later (length (b ∷ boots)) item fewer keeps own [] b boots running is)
    where
      keeps : (older front rest : List Item) (x : Item) → IsHeldOrLost seats (length (b ∷ boots)) None (last_at older front x rest)
          → IsHeldOrLost later (length (b ∷ boots)) None (last_at older front x (rest ++ item ∷ []))
      keeps older front rest x old = by old.gone
        where
          by : IsSome no_stop ⊎ HoldsReply seats (length (b ∷ boots)) x.tag → IsHeldOrLost later (length (b ∷ boots)) None (last_at older front x (rest ++ item ∷ []))
          by (inl some) = absurd (cc some)
          by (inr holds) = record {
            quiet = quiet_noted rest item x.tag c holds.client its (ap client_of holds.its) (not_it holds.client holds.phase) old.quiet;
            gone = inr (holds_still (length (b ∷ boots)) x.tag holds);
          }

-- the seat of a client is another that holds no reply
pub lost_set : (h : List Entry) (boots : List Boot) (seats : List Seat) (c : ℕ) (new : Seat) → 1 ≤ c → ((seat_in seats c).phase ≡ Held → ⊥) → AreLostSoFar h seats (length boots) [] boots
    → AreLostSoFar h (slice_set seats (c - 1) new) (length boots) [] boots
lost_set h boots seats c new first free is = seats_moved h h seats (slice_set seats (c - 1) new) c (others_set seats c new first) free (λ p unentered. unentered) boots is

-- ---- steps

module _ (z : Setting) (set : IsSetting z) (w : WorldView) (c : ℕ) (first : 1 ≤ c) (last : c ≤ length w.seats) (its : is_offered (seat_of w c).phase ≡ true → (seat_of w c).call.client ≡ c)
    (next : (item : Item) → is_offered (seat_of w c).phase ≡ true → item.tag ≡ Client c (seat_of w c).call.seq → IsOfNoEntry item w.history) (cell : IsCell z.iface.facts w.running w.run.boots)
    (is : AreLostSoFar w.history w.seats (length w.run.boots) [] w.run.boots) where
  abbrev s : Seat
  s = seat_of w c

  abbrev boots : List Boot
  boots = w.run.boots

  abbrev Keeps : WorldView → Type 0
  Keeps later = AreLostSoFar later.history later.seats (length later.run.boots) [] later.run.boots

  -- it holds of a world by its history, its boots and its seats
  lost_at : (later : WorldView) (history : List Entry) (now : List Boot) (seats : List Seat) → later.history ≡ history → later.run.boots ≡ now → later.seats ≡ seats → LostIn history seats now → Keeps later
  lost_at later history now seats h b l so =
      subst (λ x. LostIn x later.seats later.run.boots) (sym h) (subst (λ x. LostIn history later.seats x) (sym b) (subst (λ x. LostIn history x now) (sym l) so))

  free_in : (p : Phase) → s.phase ≡ p → (p ≡ Held → ⊥) → s.phase ≡ Held → ⊥
  free_in p was not held = not (sym was ∙ held)

  asked_free : s.phase ≡ Asked → s.phase ≡ Held → ⊥
  asked_free asked held = cc (asked, held)

  running : (service : Object) → w.running ≡ Some service → last_stop boots ≡ None
  running service up = goes_on z.iface.facts w.running boots cell (subst IsSome (sym up) refl)

  offers_by : (p : Phase) → s.phase ≡ p → is_offered p ≡ true → is_offered s.phase ≡ true
  offers_by p was offers = ap is_offered was ∙ offers

  abbrev test_of : Reply → Call → Bool
  test_of reply call = wakes_seat z.iface.facts (object_of z.iface.facts w.history).rows s.call reply call

  -- ---- no item is noted

  -- it held a reply that was lost in a stop
  set_lost : (new : Seat) → (w.running ≡ None) ⊎ (s.boot ≢ length boots) → LostIn w.history (slice_set w.seats (c - 1) new) boots
  set_lost new gone = on boots refl is
    where
      later : List Seat
      later = slice_set w.seats (c - 1) new

      on : (l : List Boot) → boots ≡ l → LostIn w.history w.seats l → LostIn w.history later l
      on [] same was = tt
      on (b ∷ bs) same was =
          lost_moved w.history w.history w.seats later (length (b ∷ bs)) (last_stop (b ∷ bs)) (λ p unentered. unentered)
          (λ older front rest x unentered old. record { quiet = old.quiet; gone = by x.tag old.gone }) [] b bs refl was
        where
          stopped : w.running ≡ None → IsSome (last_stop (b ∷ bs))
          stopped down = subst (λ l. IsSome (last_stop l)) same (subst (IsRunning z.iface.facts boots) down cell.runs)

          by : (tag : Tag) → IsSome (last_stop (b ∷ bs)) ⊎ HoldsReply w.seats (length (b ∷ bs)) tag → IsSome (last_stop (b ∷ bs)) ⊎ HoldsReply later (length (b ∷ bs)) tag
          by tag (inl some) = inl some
          by tag (inr holds) = whose (same_or_other holds.client c) gone
            where
              whose : (holds.client ≡ c) ⊎ (holds.client ≢ c) → (w.running ≡ None) ⊎ (s.boot ≢ length boots) → IsSome (last_stop (b ∷ bs)) ⊎ HoldsReply later (length (b ∷ bs)) tag
              whose (inr other) g = inr (holds_on w.seats later (length (b ∷ bs)) tag holds (length_set w.seats (c - 1) new) (seat_there w.seats c holds.client new first holds.first other))
              whose (inl own) (inl down) = inl (stopped down)
              whose (inl own) (inr elsewhere) = absurd (elsewhere (ap (λ n. (seat_in w.seats n).boot) (sym own) ∙ holds.given ∙ ap length (sym same)))

  -- the reply that it held is entered
  set_returned : (reply : Reply) (new : Seat) → s.phase ≡ Held → reply ≡ s.reply → LostIn (w.history ++ entry_with z.iface.facts w c reply ∷ []) (slice_set (map (woken_seat (test_of reply)) w.seats) (c - 1) new) boots
  set_returned reply new held answers = on boots is
    where
      e : Entry
      e = entry_with z.iface.facts w c reply

      later : List Seat
      later = slice_set (map (woken_seat (test_of reply)) w.seats) (c - 1) new

      others : AreOthers w.seats c later
      others = others_entered (test_of reply) w.seats c new first

      on : (l : List Boot) → LostIn w.history w.seats l → LostIn (w.history ++ e ∷ []) later l
      on [] was = tt
      on (b ∷ bs) was =
          lost_moved w.history (w.history ++ e ∷ []) w.seats later (length (b ∷ bs)) (last_stop (b ∷ bs)) (fewer_entered w.history e) keeps [] b bs refl was
        where
          keeps : (older front rest : List Item) (x : Item) → is_unentered (w.history ++ e ∷ []) (last_at older front x rest) ≡ true → IsHeldOrLost w.seats (length (b ∷ bs)) (last_stop (b ∷ bs)) (last_at older front x rest)
              → IsHeldOrLost later (length (b ∷ bs)) (last_stop (b ∷ bs)) (last_at older front x rest)
          keeps older front rest x unentered old = record { quiet = old.quiet; gone = by old.gone }
            where
              by : IsSome (last_stop (b ∷ bs)) ⊎ HoldsReply w.seats (length (b ∷ bs)) x.tag → IsSome (last_stop (b ∷ bs)) ⊎ HoldsReply later (length (b ∷ bs)) x.tag
              by (inl some) = inl some
              by (inr holds) = whose (same_or_other holds.client c)
                where
                  whose : (holds.client ≡ c) ⊎ (holds.client ≢ c) → IsSome (last_stop (b ∷ bs)) ⊎ HoldsReply later (length (b ∷ bs)) x.tag
                  whose (inr other) = inr (holds_on w.seats later (length (b ∷ bs)) x.tag holds others.count (others.same holds.client holds.first other holds.phase))
                  whose (inl own) = absurd (let entered = entered_own w.history e (last_at older front x rest) served_it its_item nothing_later in cc (unentered, entered))
                    where
                      tag : x.tag ≡ Client c s.call.seq
                      tag = holds.its ∙ ap (λ n. Client n (seat_in w.seats n).call.seq) own

                      served_it : is_by_guard e.reply ≡ false
                      served_it = ap is_by_guard answers ∙ ap (λ n. is_by_guard (seat_in w.seats n).reply) (sym own) ∙ holds.served

                      client_is : s.call.client ≡ c
                      client_is = its (offers_by Held held refl)

                      its_item : is_item_of e x ≡ true
                      its_item = ap (is_tagged s.call.client s.call.seq) tag ∙ ap (λ n. is_tagged n s.call.seq (Client c s.call.seq)) client_is ∙ own_tag c s.call.seq

                      nothing_later : list_any (is_item_of e) (rest ++ []) ≡ false
                      nothing_later = ap (list_any (is_item_of e)) (append-nil rest) ∙ none_of_client e c rest client_is (subst (λ t. list_any (λ i. client_of i.tag == client_of t) rest ≡ false) tag old.quiet)

  -- ---- an item is noted

  -- it is no reply to a client
  free_noted : (item : Item) (service : Object) (later : List Seat) → AreOthers w.seats c later → s.phase ≡ Asked → w.running ≡ Some service → client_of item.tag ≡ c → IsOfNoEntry item w.history
      → (is_clients item.tag && is_replied item.outcome) ≡ false → LostIn w.history later (noted boots item)
  free_noted item service later others asked up own none free =
      seats_noted w.history w.history w.seats later c others (asked_free asked) item own (fewer_noted item w.history none) boots (running service up)
      (λ older front. free_item (IsHeldOrLost later (length boots) None (last_at older front item [])) w.history (last_at older front item []) free) is

  walk_noted : (item : Item) (service : Object) → UsesService z w c service → client_of item.tag ≡ c → is_clients item.tag ≡ false → LostIn w.history w.seats (noted boots item)
  walk_noted item service uses own stub =
      free_noted item service w.seats (others_stay w.seats c) uses.let_in.phase uses.running own (none_of_stub item w.history stub) (ap (λ b. b && is_replied item.outcome) stub)

  call_noted : (asks : AsksService z w c) (later : List Seat) → AreOthers w.seats c later → is_replied asks.item.outcome ≡ false → LostIn w.history later (noted boots asks.item)
  call_noted asks later others unreplied =
      free_noted asks.item asks.service later others asks.reaches.uses.let_in.phase asks.reaches.uses.running (ap client_of asks.tag) (next asks.item (offers_by Asked asks.reaches.uses.let_in.phase refl) asks.tag)
      (ap (λ b. is_clients asks.item.tag && b) unreplied ∙ none (is_clients asks.item.tag))
    where
      none : (b : Bool) → (b && false) ≡ false
      none true = refl
      none false = refl

  -- a reply of the service isn't one of the guard
  served_by : (reply : Reply) → PassesGuard z w c → answer z.iface z.ask (object_of z.iface.facts w.history) s.call ≡ Some reply → is_by_guard reply ≡ false
  served_by reply let_in answers = by reply (ap (λ g. refused_or g (z.ask (object_of z.iface.facts w.history) s.call)) (sym let_in.passes) ∙ answers)
    where
      by : (r : Reply) → z.ask (object_of z.iface.facts w.history) s.call ≡ Some r → is_by_guard r ≡ false
      by (Ok good) answered = refl
      by (Refused code) answered = set.law.shape.refuses (object_of z.iface.facts w.history) s.call code answered

  -- its client holds the reply
  held_noted : (asks : AsksService z w c) (reply : Reply) → answer z.iface z.ask (object_of z.iface.facts w.history) s.call ≡ Some reply
      → LostIn w.history (slice_set w.seats (c - 1) (record s { phase = Held; boot = length boots; reply = reply })) (noted boots asks.item)
  held_noted asks reply answers =
      seats_noted w.history w.history w.seats later c (others_set w.seats c new first) (asked_free let_in.phase) asks.item (ap client_of asks.tag)
      (fewer_noted asks.item w.history (next asks.item (offers_by Asked let_in.phase refl) asks.tag)) boots (running asks.service asks.reaches.uses.running)
      (λ older front. own (is_unentered w.history (last_at older front asks.item [])) (last_at older front asks.item []) refl refl) is
    where
      let_in : PassesGuard z w c
      let_in = asks.reaches.uses.let_in

      new : Seat
      new = record s { phase = Held; boot = length boots; reply = reply }

      later : List Seat
      later = slice_set w.seats (c - 1) new

      here : seat_in later c ≡ new
      here = seat_here w.seats c new first last

      own : (b : Bool) (p : Position) → p.rest ≡ [] → p.item ≡ asks.item → When b (IsHeldOrLost later (length boots) None p)
      own false p none same = tt
      own true p none same = record {
        quiet = ap (list_any (λ i. client_of i.tag == client_of p.item.tag)) none;
        gone = inr (record {
          client = c;
          first = first;
          last = subst (λ n. c ≤ n) (sym (length_set w.seats (c - 1) new)) last;
          phase = ap (λ (t : Seat). t.phase) here;
          given = ap (λ (t : Seat). t.boot) here;
          its = ap (λ (i : Item). i.tag) same ∙ asks.tag ∙ ap (λ (t : Seat). Client c t.call.seq) (sym here);
          served = ap (λ (t : Seat). is_by_guard t.reply) here ∙ served_by reply let_in answers;
        });
      }

  -- its call is entered
  commit_noted : (asks : AsksService z w c) (reply : Reply) (new : Seat) → answer z.iface z.ask (object_of z.iface.facts w.history) s.call ≡ Some reply
      → LostIn (w.history ++ entry_with z.iface.facts w c reply ∷ []) (slice_set (map (woken_seat (test_of reply)) w.seats) (c - 1) new) (noted boots asks.item)
  commit_noted asks reply new answers =
      seats_noted w.history (w.history ++ e ∷ []) w.seats later c (others_entered (test_of reply) w.seats c new first) (asked_free let_in.phase) asks.item (ap client_of asks.tag)
      (fewer_committed asks.item w.history e (next asks.item (offers_by Asked let_in.phase refl) asks.tag)) boots (running asks.service asks.reaches.uses.running)
      (λ older front. subst (λ b. When b (IsHeldOrLost later (length boots) None (last_at older front asks.item []))) (sym (entered_own w.history e (last_at older front asks.item []) (served_by reply let_in answers) its_item refl)) tt) is
    where
      let_in : PassesGuard z w c
      let_in = asks.reaches.uses.let_in

      e : Entry
      e = entry_with z.iface.facts w c reply

      later : List Seat
      later = slice_set (map (woken_seat (test_of reply)) w.seats) (c - 1) new

      its_item : is_item_of e asks.item ≡ true
      its_item = ap (is_tagged s.call.client s.call.seq) asks.tag ∙ ap (λ n. is_tagged n s.call.seq (Client c s.call.seq)) (its (offers_by Asked let_in.phase refl)) ∙ own_tag c s.call.seq

  commits : (between : WorldView) → Commits z w c between → Keeps between
  commits between l =
      lost_at between (w.history ++ entry_with z.iface.facts w c l.reply ∷ []) (noted boots l.asks.item) (slice_set (woken z.iface.facts w c l.reply) (c - 1) (seat_after z.iface.facts w c l.reply Receipted l.reply))
      (ap (λ x. x.history) l.now) (ap (λ x. x.run.boots) l.now) (ap (λ x. x.seats) l.now ∙ given_seats z.iface.facts w c l.reply (its (offers_by Asked l.asks.reaches.uses.let_in.phase refl)))
      (commit_noted l.asks l.reply (seat_after z.iface.facts w c l.reply Receipted l.reply) l.answers)

  -- it is kept by each step
  pub lost_step : (did : Did) (later : WorldView) → Steps z w c did later → Keeps later
  lost_step Skipped later l = subst Keeps (sym l.now) is
  lost_step (Answered reply) later (inl l) = subst Keeps (sym l.now) (lost_set w.history boots w.seats c (record s { phase = Idle; reply = no_reply }) first (free_in Receipted l.phase (λ a. cc a)) is)
  lost_step (Answered reply) later (inr (inl l)) =
      lost_at later (w.history ++ entry_with z.iface.facts w c reply ∷ []) boots (slice_set (woken z.iface.facts w c reply) (c - 1) (seat_after z.iface.facts w c reply Idle no_reply))
      (ap (λ x. x.history) l.now) (ap (λ x. x.run.boots) l.now) (ap (λ x. x.seats) l.now ∙ answered_seats z.iface.facts w c reply (its (offers_by Held l.phase refl)))
      (set_returned reply (seat_after z.iface.facts w c reply Idle no_reply) l.phase l.its)
  lost_step (Answered reply) later (inr (inr l)) =
      let new = seat_after z.iface.facts w c reply Idle no_reply in
      let e = entry_with z.iface.facts w c reply in
      lost_at later (w.history ++ e ∷ []) boots (slice_set (woken z.iface.facts w c reply) (c - 1) new)
      (ap (λ x. x.history) l.now) (ap (λ x. x.run.boots) l.now) (ap (λ x. x.seats) l.now ∙ answered_seats z.iface.facts w c reply (its (offers_by Asked l.phase refl)))
      (seats_moved w.history (w.history ++ e ∷ []) w.seats (slice_set (woken z.iface.facts w c reply) (c - 1) new) c (others_entered (test_of reply) w.seats c new first) (asked_free l.phase)
      (fewer_entered w.history e) boots is)
  lost_step Lost later l = subst Keeps (sym l.now) (set_lost (record s { phase = Asked }) l.gone)
  lost_step Booted later l = subst Keeps (sym l.now) (booted_in w.history w.seats (map (woken_seat (λ call. true)) w.seats) boots (subst (IsRunning z.iface.facts boots) l.failed cell.runs) is)
  lost_step Struck later (inl l) = subst Keeps (sym l.now) (struck_in w.history w.seats boots (asked_after w.run.points 1) is)
  lost_step Struck later (inr (inl l)) =
      subst Keeps (sym l.now) (struck_in w.history w.seats (noted boots l.item) l.item.points
      (walk_noted l.item l.service l.uses (ap client_of l.tag) (ap is_clients l.tag)))
  lost_step Struck later (inr (inr (inl l))) =
      subst Keeps (sym l.now) (struck_in w.history w.seats (noted boots l.asks.item) l.asks.item.points
      (call_noted l.asks w.seats (others_stay w.seats c) (ap is_replied l.outcome)))
  lost_step Struck later (inr (inr (inr l))) =
      subst Keeps (sym l.now) (struck_in l.between.history l.between.seats l.between.run.boots (asked_after l.between.run.points 1) (commits l.between l.commits))
  lost_step Replayed later l = subst Keeps (sym l.now) (walk_noted l.item l.service l.uses (ap client_of l.tag) (ap is_clients l.tag))
  lost_step Loaded later l = subst Keeps (sym l.now) (walk_noted l.item l.service l.uses (ap client_of l.tag) (ap is_clients l.tag))
  lost_step Waits later l = subst Keeps (sym l.now) (call_noted l.asks (slice_set w.seats (c - 1) (record s { phase = Blocked })) (others_set w.seats c (record s { phase = Blocked }) first) (ap is_replied l.outcome))
  lost_step Served later (inl l) = subst Keeps (sym l.now) (commits l.between l.commits)
  lost_step Served later (inr l) = subst Keeps (sym l.now) (held_noted l.asks l.reply l.answers)
