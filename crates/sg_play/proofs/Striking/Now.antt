-- A client that goes on to ask, and whose call the guard lets pass, asks the service after the items of the last boot: its call has no reply
-- there, and isn't left to wait.
use Rattle.std.proofs.Common.{◌≡◌, ◌⊎◌, ℕ, ◌+◌, ◌<◌, ◌≤◌, Bool, true, false, cond, not, ◌&&◌, ◌||◌, List, [], ◌∷◌, ◌++◌, None, IsSome, filter, length, refl, sym, ◌∙◌, ap, subst, inl, inr, arith}
use Rattle.std.specs.Prelude.{◌==◌}
use Rattle.std.specs.List.{list_any}
use Rattle.std.specs.declared.option.Option.{Option}
use Rattle.sg_facts.specs.sg_base.Lists.{Each, When}
use Rattle.sg_facts.specs.sg_base.declared.call.Call.{Call}
use Rattle.sg_facts.specs.declared.entry.Entry.{Entry}
use Rattle.sg_facts.specs.declared.trace.Item.{Item}
use Rattle.sg_facts.specs.declared.trace.Tag.{Tag}
use Rattle.sg_facts.specs.declared.trace.Tag.TheVariants.{Walk, Load, Client}
use Rattle.sg_facts.specs.Facts.{Facts}
use Rattle.sg_facts.specs.Guard.{guard}
use Rattle.sg_facts.specs.Object.{Object, after, empty_object, object_of}
use Rattle.sg_facts.specs.Inside.Rows.{object_from}
use Rattle.sg_facts.specs.Trace.{Boot}
use Rattle.sg_plain.specs.sg_hist.Ending.{client_of, is_still_blocked}
use Rattle.sg_plain.specs.sg_hist.Growing.{IsOfNoEntry, last_stop}
use Rattle.sg_plain.specs.sg_hist.Inside.Parts.{is_unentered, waking_entries}
use Rattle.sg_plain.specs.sg_hist.Reading.{Position, is_by_guard, is_item_of, is_tagged, items_after, last_items, older_items, places_in, stands_among}
use Rattle.sg_plain.specs.sg_hist.Recovered.{is_clients, is_entered, is_replied}
use Rattle.sg_plain.specs.sg_hist.Wakes.{has_blocked, wakes_at}
use Rattle.sg_plain.specs.Playing.Callers.{AreCallers}
use Rattle.sg_plain.specs.sg_script.declared.script.Script.{Script}
use Rattle.sg_plain.specs.sg_clients.WorldView.{Seat, WorldView, is_offered, seat_in, seat_of, unanswered}
use Rattle.sg_plain.specs.sg_clients.declared.phase.Phase.TheVariants.{Asked, Held}
use Rattle.sg_world.proofs.sg_recovery_laws.LastItem.Later.{guard_leaves}
use Rattle.sg_world.proofs.sg_recovery_laws.LastItem.Noting.{under_way_now}
use Rattle.sg_world.specs.sg_recovery_laws.LastItem.LastPlace.{HaveItems}
use Rattle.sg_world.proofs.sg_world_laws.Ending.Calls.{none_of_next, test_same}
use Rattle.sg_world.specs.sg_world_laws.Ending.{AreLostSoFar, HoldsReply, IsHeldOrLost}
use Rattle.sg_world.specs.sg_world_laws.Setting.{Setting}
use Rattle.sg_play.proofs.Striking.Made.{is_made, its, numbers_smaller}
use Rattle.sg_play.specs.Striking.Striking.{SomeCallAsks}
use Rattle.sg_play.specs.Waking.Waking.{IsItsOffer, IsMadeSoFar, IsWokenSince}

-- ---- the object after all items

stands_is : (items : List Item) (e : Entry) → (is_by_guard e.reply || list_any (is_item_of e) items) ≡ true → stands_among items [] e ≡ not (is_by_guard e.reply)
stands_is items e has = at (is_by_guard e.reply) (list_any (is_item_of e) items) has
  where
    at : (g a : Bool) → (g || a) ≡ true → (not g && a && not false) ≡ not g
    at true a has = refl
    at false true has = refl
    at false false has = absurd (cc has)

stand_all : (items : List Item) (h : List Entry) → HaveItems items h → Each (λ e. (is_by_guard e.reply || stands_among items [] e) ≡ true) h
stand_all items [] has = tt
stand_all items (e ∷ h) has = (ap (λ b. is_by_guard e.reply || b) (stands_is items e has.0) ∙ either (is_by_guard e.reply), stand_all items h has.1)
  where
    either : (g : Bool) → (g || not g) ≡ true
    either true = refl
    either false = refl

object_after : (facts : Facts) (items : List Item) (o : Object) (h : List Entry) → HaveItems items h → object_from facts o (filter (stands_among items []) h) ≡ object_from facts o h
object_after facts items o [] has = refl
object_after facts items o (e ∷ h) has =
    ap (λ b. object_from facts o (cond b (e ∷ filter (stands_among items []) h) (filter (stands_among items []) h))) (stands_is items e has.0)
    ∙ at (is_by_guard e.reply) refl (object_after facts items (after facts o e.call e.reply) h has.1) (object_after facts items o h has.1)
  where
    at : (g : Bool) → is_by_guard e.reply ≡ g → object_from facts (after facts o e.call e.reply) (filter (stands_among items []) h) ≡ object_from facts (after facts o e.call e.reply) h
        → object_from facts o (filter (stands_among items []) h) ≡ object_from facts o h
        → object_from facts o (cond (not g) (e ∷ filter (stands_among items []) h) (filter (stands_among items []) h)) ≡ object_from facts (after facts o e.call e.reply) h
    at true is with_it without = without ∙ ap (λ x. object_from facts x h) (sym (guard_leaves facts o e.call e.reply is))
    at false is with_it without = with_it

object_all : (facts : Facts) (items : List Item) (h : List Entry) → HaveItems items h → object_of facts (filter (stands_among items []) h) ≡ object_of facts h
object_all facts items h has = object_after facts items empty_object h has

-- ---- no reply

-- the replies of the last boot that are no entry's
pub lost_last : (h : List Entry) (seats : List Seat) (n : ℕ) (older : List Item) (b : Boot) (boots : List Boot) → AreLostSoFar h seats n older (b ∷ boots)
    → Each (λ p. When (is_unentered h p) (IsHeldOrLost seats n (last_stop (b ∷ boots)) p)) (places_in (older_items older (b ∷ boots)) [] (last_items (b ∷ boots)) [])
lost_last h seats n older b [] is = is
lost_last h seats n older b (c ∷ boots) is = lost_last h seats n (older ++ b.items) c boots is.1

not_entered : (h : List Entry) (p : Position) → IsOfNoEntry p.item h → is_entered h p ≡ false
not_entered h p none = by h none
  where
    none_of : (a l : Bool) → (a && false && l) ≡ false
    none_of true l = refl
    none_of false l = refl

    by : (l : List Entry) → IsOfNoEntry p.item l → list_any (λ e. not (is_by_guard e.reply) && is_item_of e p.item && not (list_any (is_item_of e) (items_after p))) l ≡ false
    by [] none = refl
    by (e ∷ l) none =
        ap (λ b. (not (is_by_guard e.reply) && b && not (list_any (is_item_of e) (items_after p))) || list_any (λ x. not (is_by_guard x.reply) && is_item_of x p.item && not (list_any (is_item_of x) (items_after p))) l) none.0
        ∙ ap (λ b. b || list_any (λ x. not (is_by_guard x.reply) && is_item_of x p.item && not (list_any (is_item_of x) (items_after p))) l) (none_of (not (is_by_guard e.reply)) (not (list_any (is_item_of e) (items_after p))))
        ∙ by l none.1

abbrev no_stop : Option ℕ
no_stop = None

tag_of : (client seq : ℕ) (tag : Tag) → is_tagged client seq tag ≡ true → tag ≡ Client client seq
tag_of client seq (Walk id k c) is = absurd (cc is)
tag_of client seq (Load key c) is = absurd (cc is)
tag_of client seq (Client c n) is =
    let both = parts (c == client) (n == seq) is in
    ap (λ m. Client m n) (test_same c client both.0) ∙ ap (Client client) (test_same n seq both.1)
  where
    parts : (a b : Bool) → (a && b) ≡ true → (a ≡ true) × (b ≡ true)
    parts true b is = (refl, is)
    parts false b is = absurd (cc is)

module _ (h : List Entry) (seats : List Seat) (n c seq below : ℕ) (asked : (seat_in seats c).phase ≡ Asked) (smaller : Each (λ e. (e.call.client == c) ≡ true → e.call.seq ≤ below) h) (less : below < seq) where
  unreplied_at : (p : Position) → When (is_unentered h p) (IsHeldOrLost seats n None p) → (is_tagged c seq p.item.tag && is_replied p.item.outcome) ≡ true → ⊥
  unreplied_at p held is = by (subst (λ b. When b (IsHeldOrLost seats n None p)) unentered held).gone
    where
      parts : (a b : Bool) → (a && b) ≡ true → (a ≡ true) × (b ≡ true)
      parts true b is = (refl, is)
      parts false b is = absurd (cc is)

      both : (is_tagged c seq p.item.tag ≡ true) × (is_replied p.item.outcome ≡ true)
      both = parts (is_tagged c seq p.item.tag) (is_replied p.item.outcome) is

      tag : p.item.tag ≡ Client c seq
      tag = tag_of c seq p.item.tag both.0

      none : IsOfNoEntry p.item h
      none = none_of_next p.item c seq below h tag less smaller

      unentered : is_unentered h p ≡ true
      unentered =
          ap (λ t. is_clients t && is_replied p.item.outcome && not (is_entered h p)) tag ∙ ap (λ b. true && b && not (is_entered h p)) both.1 ∙ ap (λ b. true && true && not b) (not_entered h p none)

      by : IsSome no_stop ⊎ HoldsReply seats n p.item.tag → ⊥
      by (inl some) = cc some
      by (inr holds) =
          let same : holds.client ≡ c = ap client_of (sym holds.its ∙ tag) in
          let held : Held ≡ Asked = sym holds.phase ∙ ap (λ k. (seat_in seats k).phase) same ∙ asked in
          cc held

  unreplied_in : (older front items : List Item) → Each (λ p. When (is_unentered h p) (IsHeldOrLost seats n None p)) (places_in older front items [])
      → list_any (λ item. is_tagged c seq item.tag && is_replied item.outcome) items ≡ false
  unreplied_in older front [] all = refl
  unreplied_in older front (x ∷ items) all = by (is_tagged c seq x.tag && is_replied x.outcome) refl (unreplied_in older (front ++ x ∷ []) items all.1)
    where
      by : (b : Bool) → (is_tagged c seq x.tag && is_replied x.outcome) ≡ b → list_any (λ item. is_tagged c seq item.tag && is_replied item.outcome) items ≡ false
          → (b || list_any (λ item. is_tagged c seq item.tag && is_replied item.outcome) items) ≡ false
      by true is rest = absurd (unreplied_at (record { older = older; front = front; item = x; rest = items; newer = [] }) all.0 is)
      by false is rest = rest

-- a client that asks has no reply in the last boot, which goes on
pub unreplied_now : (h : List Entry) (seats : List Seat) (boots : List Boot) (c seq below : ℕ) → (seat_in seats c).phase ≡ Asked → Each (λ e. (e.call.client == c) ≡ true → e.call.seq ≤ below) h → below < seq → last_stop boots ≡ None
    → AreLostSoFar h seats (length boots) [] boots → list_any (λ item. is_tagged c seq item.tag && is_replied item.outcome) (last_items boots) ≡ false
unreplied_now h seats [] c seq below asked smaller less running lost = refl
unreplied_now h seats (b ∷ boots) c seq below asked smaller less running lost =
    unreplied_in h seats (length (b ∷ boots)) c seq below asked smaller less (older_items [] (b ∷ boots)) [] (last_items (b ∷ boots))
    (subst (λ o. Each (λ p. When (is_unentered h p) (IsHeldOrLost seats (length (b ∷ boots)) o p)) (places_in (older_items [] (b ∷ boots)) [] (last_items (b ∷ boots)) [])) running
    (lost_last h seats (length (b ∷ boots)) [] b boots lost))

-- ---- no wait

module _ (facts : Facts) (entries : List Entry) (c : ℕ) (s : Seat) (own : s.call.client ≡ c) (next : s.call.seq ≡ s.seq + 1) where
  its_desc : (shown : Call) (tag : Tag) → IsMadeSoFar c s shown tag → is_tagged c s.call.seq tag ≡ true → shown.desc ≡ s.call.desc
  its_desc shown tag made tagged = by (subst (IsMadeSoFar c s shown) (tag_of c s.call.seq tag tagged) made refl)
    where
      by : (s.call.seq ≤ s.seq) ⊎ IsItsOffer s shown s.call.seq → shown.desc ≡ s.call.desc
      by (inl done) = absurd (omega (arith, done, next))
      by (inr offer) = ap (λ (k : Call). k.desc) offer.2

  pub awake_in : (older front items : List Item) → Each (λ item. IsMadeSoFar c s item.shown item.tag) items → Each (IsWokenSince facts entries c s.call.seq) (places_in older front items [])
      → is_still_blocked facts entries s.call (places_in older front items []) ≡ false
  awake_in older front [] made since = refl
  awake_in older front (x ∷ items) made since =
      ap (λ b. b || is_still_blocked facts entries s.call (places_in older (front ++ x ∷ []) items []))
      (ap (λ n. (is_tagged n s.call.seq x.tag && has_blocked x.outcome) && not (list_any (wakes_at facts entries s.call.desc) (places_in older (front ++ x ∷ []) items []))) own ∙ at (is_tagged c s.call.seq x.tag) (has_blocked x.outcome) refl refl)
      ∙ awake_in older (front ++ x ∷ []) items made.1 since.1
    where
      at : (a b : Bool) → is_tagged c s.call.seq x.tag ≡ a → has_blocked x.outcome ≡ b → ((a && b) && not (list_any (wakes_at facts entries s.call.desc) (places_in older (front ++ x ∷ []) items []))) ≡ false
      at false b tagged blocks = refl
      at true false tagged blocks = refl
      at true true tagged blocks =
          ap not (ap (λ id. list_any (wakes_at facts entries id) (places_in older (front ++ x ∷ []) items [])) (sym (its_desc x.shown x.tag made.0 tagged))
          ∙ since.0 (ap (λ t. t && has_blocked x.outcome) tagged ∙ blocks))

-- ---- a client that asks

module _ (z : Setting) (script : Script) (w : WorldView) (callers : AreCallers z.iface.facts script w.history w.seats) (none : w.withdrawn ≡ []) (c : ℕ) (first : 1 ≤ c) (last : c ≤ length w.seats)
    (asked : (seat_of w c).phase ≡ Asked) (passes : guard z.iface (object_of z.iface.facts w.history) (seat_of w c).call ≡ None) where
  abbrev t : Seat
  t = seat_of w c

  offers : is_offered t.phase ≡ true
  offers = ap is_offered asked

  own : t.call.client ≡ c
  own = its z.iface.facts script w callers none c first last offers

  pub asks_now : (older items : List Item) → HaveItems (older ++ items) w.history → list_any (λ item. is_tagged c (seat_of w c).call.seq item.tag && is_replied item.outcome) items ≡ false
      → is_still_blocked z.iface.facts (waking_entries z.iface.facts w.history) (seat_of w c).call (places_in older [] items []) ≡ false → SomeCallAsks z.iface w.history (unanswered w) older items []
  asks_now older items has unreplied awake = record {
    call = t.call;
    asks = record {
      admitted = record {
        under_way = under_way_now z.iface.facts w.history (unanswered w) (stands_among (older ++ items) []) t.call.client t.call
            (record { its = refl; made = is_made z.iface.facts script w callers none c first last offers })
            (subst (λ k. Each (λ e. (e.call.client == k) ≡ true → e.call.seq < t.call.seq) w.history) (sym own) (numbers_smaller z.iface.facts script w callers none c first last offers))
            (stand_all (older ++ items) w.history has);
        guarded = ap (λ o. guard z.iface o t.call) (object_all z.iface.facts (older ++ items) w.history has) ∙ passes;
      };
      unreplied = ap (λ k. list_any (λ item. is_tagged k t.call.seq item.tag && is_replied item.outcome) items) own ∙ unreplied;
      awake = awake;
    };
  }
