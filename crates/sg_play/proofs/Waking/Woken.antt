-- A client's seat is as waits want it, where an item is noted, an entry is made, or the seat changes.
use Rattle.std.proofs.Common.{◌≡◌, ◌≢◌, ◌⊎◌, ℕ, ◌+◌, ◌≤◌, Bool, true, false, ◌&&◌, List, [], ◌∷◌, ◌++◌, refl, sym, ◌∙◌, ap, subst, inl, inr, arith}
use Rattle.std.specs.Prelude.{◌==◌}
use Rattle.sg_facts.specs.sg_base.Lists.{Each}
use Rattle.sg_facts.specs.sg_base.declared.call.Call.{Call}
use Rattle.sg_facts.specs.declared.entry.Entry.{Entry}
use Rattle.sg_facts.specs.declared.outcome.Outcome.{Outcome}
use Rattle.sg_facts.specs.declared.outcome.Outcome.TheVariants.{Replied, Blocks, Stopped, NoMemory}
use Rattle.sg_facts.specs.declared.trace.Item.{Item}
use Rattle.sg_facts.specs.declared.trace.Tag.{Tag}
use Rattle.sg_facts.specs.declared.trace.Tag.TheVariants.{Walk, Load, Client}
use Rattle.sg_facts.specs.Facts.{Facts}
use Rattle.sg_facts.specs.Trace.{Boot}
use Rattle.sg_plain.specs.sg_hist.Reading.{Position, is_tagged, last_items, older_items, places_from, places_in, last_places}
use Rattle.sg_plain.specs.sg_hist.Recovered.{is_clients, is_replied}
use Rattle.sg_plain.specs.Inside.Kept.{IsWokenBetween}
use Rattle.sg_plain.specs.sg_hist.Wakes.{has_blocked, wakes_at}
use Rattle.sg_world.proofs.sg_recovery_laws.Lists.{each_map, each_push}
use Rattle.sg_plain.specs.sg_hist.Growing.{IsGrown, booted, noted, struck}
use Rattle.sg_plain.specs.sg_clients.WorldView.{Seat, is_held_phase, is_offered}
use Rattle.sg_plain.specs.sg_clients.declared.phase.Phase.TheVariants.{Asked, Blocked}
use Rattle.sg_world.specs.sg_recovery_laws.LastItem.LastPlace.{last_place}
use Rattle.sg_play.proofs.Waking.Between.{since_more, since_same, since_woken}
use Rattle.sg_play.proofs.Waking.Boots.{at_places, between_noted}
use Rattle.sg_world.proofs.sg_world_laws.Ending.Boots.{items_booted, items_noted, items_struck, places_last_booted, places_last_struck, places_noted}
use Rattle.sg_world.proofs.sg_world_laws.Ending.Calls.{stub_tagged, test_same}
use Rattle.sg_play.specs.Waking.Waking.{IsItsOffer, IsMadeSoFar, IsWokenSeat, IsWokenSince, is_asking}
use Rattle.sg_facts.proofs.Replaying.Found.{other_test}

-- ---- a seat that changes

-- what was made so far still was, who asks asked the same before, and in a global service none holds a reply
pub record Moves (facts : Facts) (s later : Seat) : Type 0 where
  pub made : (call : Call) (seq : ℕ) → (seq ≤ s.seq) ⊎ IsItsOffer s call seq → (seq ≤ later.seq) ⊎ IsItsOffer later call seq
  pub asks : is_asking later.phase ≡ true → (is_asking s.phase ≡ true) × (later.call ≡ s.call)
  pub holds : facts.global ≡ true → is_held_phase s.phase ≡ false → is_held_phase later.phase ≡ false

pub moves_same : (facts : Facts) (s : Seat) → Moves facts s s
moves_same facts s = record { made = λ call seq was. was; asks = λ is. (is, refl); holds = λ all none. none }

-- a seat in another phase, whose call stays
pub moves_to : (facts : Facts) (s : Seat) (later : Seat) → later.seq ≡ s.seq → later.call ≡ s.call → (is_offered s.phase ≡ true → is_offered later.phase ≡ true)
    → (is_asking later.phase ≡ true → is_asking s.phase ≡ true) → (facts.global ≡ true → is_held_phase later.phase ≡ false) → Moves facts s later
moves_to facts s later number same offers asks holds = record {
  made = λ call seq was. by call seq was;
  asks = λ is. (asks is, same);
  holds = λ all none. holds all;
}
  where
    by : (call : Call) (seq : ℕ) → (seq ≤ s.seq) ⊎ IsItsOffer s call seq → (seq ≤ later.seq) ⊎ IsItsOffer later call seq
    by call seq (inl done) = inl (omega (arith, done, number))
    by call seq (inr its) = inr (offers its.0, its.1 ∙ ap (λ c. c.seq) (sym same), its.2 ∙ sym same)

-- a seat whose call is answered, or that had none
pub moves_free : (facts : Facts) (s : Seat) (later : Seat) → s.seq ≤ later.seq → (is_offered s.phase ≡ true → s.call.seq ≤ later.seq) → is_asking later.phase ≡ false → is_held_phase later.phase ≡ false
    → Moves facts s later
moves_free facts s later more answered none free = record {
  made = λ call seq was. by call seq was;
  asks = λ is. absurd (cc (is, none));
  holds = λ all before. free;
}
  where
    by : (call : Call) (seq : ℕ) → (seq ≤ s.seq) ⊎ IsItsOffer s call seq → (seq ≤ later.seq) ⊎ IsItsOffer later call seq
    by call seq (inl done) = inl (omega (arith, done, more))
    by call seq (inr its) = inl (omega (arith, its.1, answered its.0))

made_kept : (client : ℕ) (s later : Seat) → ((call : Call) (seq : ℕ) → (seq ≤ s.seq) ⊎ IsItsOffer s call seq → (seq ≤ later.seq) ⊎ IsItsOffer later call seq) → (items : List Item)
    → Each (λ item. IsMadeSoFar client s item.shown item.tag) items → Each (λ item. IsMadeSoFar client later item.shown item.tag) items
made_kept client s later so items all = each_map (λ item. IsMadeSoFar client s item.shown item.tag) (λ item. IsMadeSoFar client later item.shown item.tag) items (λ item was. by item.shown item.tag was) all
  where
    by : (shown : Call) (tag : Tag) → IsMadeSoFar client s shown tag → IsMadeSoFar client later shown tag
    by shown (Walk id k c) was = tt
    by shown (Load key c) was = tt
    by shown (Client c seq) was = λ own. so shown seq (was own)

since_call : (facts : Facts) (entries : List Entry) (client : ℕ) (ps : List Position) (call later : Call) → later ≡ call → Each (IsWokenSince facts entries client call.seq) ps → Each (IsWokenSince facts entries client later.seq) ps
since_call facts entries client ps call later same all = subst (λ (k : Call). Each (IsWokenSince facts entries client k.seq) ps) (sym same) all

-- the boots stay, and the entries, as far as waits go
pub seat_moved : (facts : Facts) (entries now : List Entry) (boots : List Boot) (client : ℕ) (s later : Seat) → ((id : ℕ) (p : Position) → wakes_at facts now id p ≡ wakes_at facts entries id p)
    → IsWokenSeat facts entries boots client s → Moves facts s later → IsWokenSeat facts now boots client later
seat_moved facts entries now boots client s later same is moves = record {
  items = made_kept client s later moves.made (last_items boots) is.items;
  since = λ asks. since_same facts entries now same client later.call.seq (last_places boots) (since_call facts entries client (last_places boots) s.call later.call (moves.asks asks).1 (is.since (moves.asks asks).0));
  visible = λ all. moves.holds all (is.visible all);
}

-- the service stops
pub seat_struck : (facts : Facts) (entries : List Entry) (boots : List Boot) (stop client : ℕ) (s : Seat) → IsWokenSeat facts entries boots client s → IsWokenSeat facts entries (struck boots stop) client s
seat_struck facts entries boots stop client s is = record {
  items = subst (Each (λ item. IsMadeSoFar client s item.shown item.tag)) (sym (items_struck boots stop)) is.items;
  since = λ asks. subst (Each (IsWokenSince facts entries client s.call.seq)) (sym (places_last_struck boots stop)) (is.since asks);
  visible = is.visible;
}

-- the service is booted
pub seat_booted : (facts : Facts) (entries : List Entry) (boots : List Boot) (client : ℕ) (s : Seat) → (facts.global ≡ true → is_held_phase s.phase ≡ false) → IsWokenSeat facts entries (booted boots) client s
seat_booted facts entries boots client s visible = record {
  items = subst (Each (λ item. IsMadeSoFar client s item.shown item.tag)) (sym (items_booted boots)) tt;
  since = λ asks. subst (Each (IsWokenSince facts entries client s.call.seq)) (sym (places_last_booted boots)) tt;
  visible = visible;
}

-- a client offers its next call
pub seat_offered : (facts : Facts) (entries : List Entry) (boots : List Boot) (client : ℕ) (s : Seat) (call : Call) → is_offered s.phase ≡ false → call.seq ≡ s.seq + 1
    → IsWokenSeat facts entries boots client s → IsWokenSeat facts entries boots client (record s { phase = Asked; call = call })
seat_offered facts entries boots client s call free next is = record {
  items = made_kept client s (record s { phase = Asked; call = call }) (λ shown seq was. by shown seq was) (last_items boots) is.items;
  since = λ asks. at_all (last_places boots) (at_places (λ item. IsMadeSoFar client s item.shown item.tag) (older_items [] boots) [] (last_items boots) [] is.items);
  visible = λ all. refl;
}
  where
    by : (shown : Call) (seq : ℕ) → (seq ≤ s.seq) ⊎ IsItsOffer s shown seq → (seq ≤ s.seq) ⊎ IsItsOffer (record s { phase = Asked; call = call }) shown seq
    by shown seq (inl done) = inl done
    by shown seq (inr its) = absurd (let offers = its.0 in cc (offers, free))

    none : (shown : Call) (tag : Tag) → IsMadeSoFar client s shown tag → is_tagged client call.seq tag ≡ false
    none shown (Walk id k c) was = refl
    none shown (Load key c) was = refl
    none shown (Client c seq) was = at (c == client) refl
      where
        at : (b : Bool) → (c == client) ≡ b → (b && (seq == call.seq)) ≡ false
        at false own = refl
        at true own = other_test seq call.seq (λ same. elim (was (test_same c client own)) [
          | inl done ↦ omega (arith, done, same, next)
          | inr its ↦ (let offers = its.0 in cc (offers, free))
        ])

    at_all : (ps : List Position) → Each (λ p. IsMadeSoFar client s p.item.shown p.item.tag) ps → Each (IsWokenSince facts entries client call.seq) ps
    at_all [] all = tt
    at_all (p ∷ ps) all = (
      λ waits. absurd (let not_so = ap (λ b. b && has_blocked p.item.outcome) (none p.item.shown p.item.tag all.0) in cc (not_so, waits)),
      at_all ps all.1,
    )

-- ---- an item is noted

-- an item is of no client's call
pub stub_made : (client : ℕ) (s : Seat) (shown : Call) (tag : Tag) → is_clients tag ≡ false → IsMadeSoFar client s shown tag
stub_made client s shown (Walk id k c) stub = tt
stub_made client s shown (Load key c) stub = tt
stub_made client s shown (Client c seq) stub = absurd (cc stub)

pub stub_waits : (client seq : ℕ) (item : Item) → is_clients item.tag ≡ false → (is_tagged client seq item.tag && has_blocked item.outcome) ≡ false
stub_waits client seq item stub = ap (λ b. b && has_blocked item.outcome) (stub_tagged client seq item.tag stub)

-- or of another client's
pub other_made : (client c n : ℕ) (s : Seat) (item : Item) → item.tag ≡ Client c n → client ≢ c → IsMadeSoFar client s item.shown item.tag
other_made client c n s item tag other = subst (IsMadeSoFar client s item.shown) (sym tag) (λ own. absurd (other (sym own)))

pub other_waits : (client seq c n : ℕ) (item : Item) → item.tag ≡ Client c n → client ≢ c → (is_tagged client seq item.tag && has_blocked item.outcome) ≡ false
other_waits client seq c n item tag other =
    ap (λ t. is_tagged client seq t && has_blocked item.outcome) tag ∙ ap (λ b. (b && (n == seq)) && has_blocked item.outcome) (other_test c client (λ own. other (sym own)))

-- or it isn't one of a wait
pub goes_on_waits : (client seq : ℕ) (item : Item) → has_blocked item.outcome ≡ false → (is_tagged client seq item.tag && has_blocked item.outcome) ≡ false
goes_on_waits client seq item goes = ap (λ b. is_tagged client seq item.tag && b) goes ∙ by (is_tagged client seq item.tag)
  where
    by : (b : Bool) → (b && false) ≡ false
    by true = refl
    by false = refl

pub replied_goes : (outcome : Outcome) → is_replied outcome ≡ true → has_blocked outcome ≡ false
replied_goes (Replied reply patch) is = refl
replied_goes Blocks is = absurd (cc is)
replied_goes Stopped is = refl
replied_goes NoMemory is = refl

pub stopped_goes : (outcome : Outcome) → outcome ≡ Stopped → has_blocked outcome ≡ false
stopped_goes outcome is = ap has_blocked is

module _ (facts : Facts) (entries now : List Entry) (item : Item) (same : (id : ℕ) (p q : Position) → IsGrown item p q → wakes_at facts now id q ≡ wakes_at facts entries id p) (boots : List Boot) (begun : boots ≢ []) where
  count_items : (l : List Boot) → l ≢ [] → last_items (noted l item) ≡ last_items l ++ item ∷ []
  count_items [] some = absurd (some refl)
  count_items (b ∷ l) some = items_noted b l item

  count_places : (l : List Boot) → l ≢ [] → last_places (noted l item) ≡ places_in (older_items [] l) [] (last_items l ++ item ∷ []) []
  count_places [] some = absurd (some refl)
  count_places (b ∷ l) some = places_noted b l item

  -- a seat where it is noted, at which its client doesn't wait
  pub seat_noted : (client : ℕ) (s later : Seat) → IsWokenSeat facts entries boots client s → Moves facts s later → IsMadeSoFar client later item.shown item.tag
      → (is_asking later.phase ≡ true → (is_tagged client later.call.seq item.tag && has_blocked item.outcome) ≡ false) → IsWokenSeat facts now (noted boots item) client later
  seat_noted client s later is moves own none = record {
    items = subst (Each (λ x. IsMadeSoFar client later x.shown x.tag)) (sym (count_items boots begun))
        (each_push (λ x. IsMadeSoFar client later x.shown x.tag) (last_items boots) item (made_kept client s later moves.made (last_items boots) is.items) own);
    since = λ asks. subst (Each (IsWokenSince facts now client later.call.seq)) (sym (count_places boots begun))
        (since_more facts entries now item same client later.call.seq (none asks) (older_items [] boots) [] (last_items boots)
        (since_call facts entries client (last_places boots) s.call later.call (moves.asks asks).1 (is.since (moves.asks asks).0)));
    visible = λ all. moves.holds all (is.visible all);
  }

  -- a seat that waited and is woken by the item
  pub seat_woken_by : (client : ℕ) (s : Seat) → s.phase ≡ Blocked → s.call.seq ≡ s.seq + 1 → IsWokenSeat facts entries boots client s → IsMadeSoFar client (record s { phase = Asked }) item.shown item.tag
      → (is_tagged client s.call.seq item.tag && has_blocked item.outcome) ≡ false → wakes_at facts now s.call.desc (last_place (older_items [] boots) (last_items boots) item) ≡ true
      → IsWokenSeat facts now (noted boots item) client (record s { phase = Asked })
  seat_woken_by client s blocked next is own none wake = record {
    items = subst (Each (λ x. IsMadeSoFar client (record s { phase = Asked }) x.shown x.tag)) (sym (count_items boots begun))
        (each_push (λ x. IsMadeSoFar client (record s { phase = Asked }) x.shown x.tag) (last_items boots) item
        (made_kept client s (record s { phase = Asked }) (λ call seq was. by call seq was) (last_items boots) is.items) own);
    since = λ asks. subst (Each (IsWokenSince facts now client s.call.seq)) (sym (count_places boots begun))
        (since_woken facts now item client s.call.seq s.call.desc none (older_items [] boots) [] (last_items boots)
        (each_map (λ x. IsMadeSoFar client s x.shown x.tag) (λ x. is_tagged client s.call.seq x.tag ≡ true → x.shown.desc ≡ s.call.desc) (last_items boots) (λ x was tagged. its x.shown x.tag was tagged) is.items) wake);
    visible = λ all. refl;
  }
    where
      by : (call : Call) (seq : ℕ) → (seq ≤ s.seq) ⊎ IsItsOffer s call seq → (seq ≤ s.seq) ⊎ IsItsOffer (record s { phase = Asked }) call seq
      by call seq (inl done) = inl done
      by call seq (inr offer) = inr (refl, offer.1, offer.2)

      parts : (a b : Bool) → (a && b) ≡ true → (a ≡ true) × (b ≡ true)
      parts true b is = (refl, is)
      parts false b is = absurd (cc is)

      its : (shown : Call) (tag : Tag) → IsMadeSoFar client s shown tag → is_tagged client s.call.seq tag ≡ true → shown.desc ≡ s.call.desc
      its shown (Walk id k c) was tagged = absurd (cc tagged)
      its shown (Load key c) was tagged = absurd (cc tagged)
      its shown (Client c seq) was tagged =
          let both = parts (c == client) (seq == s.call.seq) tagged in
          elim (was (test_same c client both.0)) [
            | inl done ↦ absurd (omega (arith, done, next, test_same seq s.call.seq both.1))
            | inr offer ↦ ap (λ k. k.desc) offer.2
          ]

  -- all waits, where the call of the item was woken since it waited
  pub all_noted : Each (λ p. IsWokenBetween facts entries p p.item.tag) (places_from [] boots)
      → ((client seq : ℕ) → (is_tagged client seq item.tag && has_blocked item.outcome) ≡ true → Each (IsWokenSince facts entries client seq) (last_places boots))
      → Each (λ p. IsWokenBetween facts now p p.item.tag) (places_from [] (noted boots item))
  all_noted all again = by boots begun all again
    where
      by : (l : List Boot) → l ≢ [] → Each (λ p. IsWokenBetween facts entries p p.item.tag) (places_from [] l)
          → ((client seq : ℕ) → (is_tagged client seq item.tag && has_blocked item.outcome) ≡ true → Each (IsWokenSince facts entries client seq) (last_places l))
          → Each (λ p. IsWokenBetween facts now p p.item.tag) (places_from [] (noted l item))
      by [] some all again = absurd (some refl)
      by (b ∷ l) some all again = between_noted facts entries now item same [] b l all again
