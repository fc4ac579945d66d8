-- A call that asks the service after the items of a boot does so whatever comes next: an item in a later boot, an entry, or calls that are made.
use Rattle.std.proofs.Common.{◌≡◌, ℕ, Bool, true, false, cond, not, ◌&&◌, ◌||◌, List, [], ◌∷◌, ◌++◌, filter, refl, ◌∙◌, ap}
use Rattle.std.specs.List.{list_any}
use Rattle.sg_facts.specs.sg_base.Lists.{Each}
use Rattle.sg_facts.specs.sg_base.declared.call.Call.{Call}
use Rattle.sg_facts.specs.declared.entry.Entry.{Entry}
use Rattle.sg_facts.specs.declared.row.Row.{Row}
use Rattle.sg_facts.specs.declared.trace.Item.{Item}
use Rattle.sg_facts.specs.Facts.{Facts}
use Rattle.sg_facts.specs.Guard.{guard}
use Rattle.sg_facts.specs.Interface.{Declared}
use Rattle.sg_facts.specs.Object.{object_of}
use Rattle.sg_plain.specs.sg_hist.Ending.{is_still_blocked}
use Rattle.sg_plain.specs.sg_hist.Growing.{AreGrown, AreKept, IsGrown, IsLastCall, IsOfNoEntry}
use Rattle.sg_plain.specs.sg_hist.Inside.Parts.{waits_in, waking_entries}
use Rattle.sg_plain.specs.sg_hist.Reading.{Position, is_by_guard, is_item_of, is_tagged, items_after, object_before, places_in, stands_among, stands_before}
use Rattle.sg_plain.specs.sg_hist.Wakes.{has_blocked, wakes, wakes_at}
use Rattle.sg_plain.proofs.sg_hist.Growing.{any_more, entries_before-not_yet, in_older}
use Rattle.sg_world.proofs.sg_recovery_laws.Stays.{under_each, under_more}
use Rattle.sg_world.proofs.sg_world_laws.Ending.Wakers.{any_but, wakes_noted}
use Rattle.sg_play.specs.Striking.Striking.{SomeCallAsks}

-- ---- which entries are before

same_filter : (f g : Entry → Bool) (h : List Entry) → Each (λ e. g e ≡ f e) h → filter g h ≡ filter f h
same_filter f g [] same = refl
same_filter f g (e ∷ h) same = ap (λ b. cond b (e ∷ filter g h) (filter g h)) same.0 ∙ ap (λ l. cond (f e) (e ∷ l) l) (same_filter f g h same.1)

filter_push : (f : Entry → Bool) (h : List Entry) (e : Entry) → f e ≡ false → filter f (h ++ e ∷ []) ≡ filter f h
filter_push f [] e none = ap (λ b. cond b (e ∷ []) []) none
filter_push f (x ∷ h) e none = ap (λ l. cond (f x) (x ∷ l) l) (filter_push f h e none)

-- ---- who is left to wait

any_grown : (facts : Facts) (entries : List Entry) (x : Item) (id : ℕ) → ((p q : Position) → IsGrown x p q → wakes_at facts entries id q ≡ wakes_at facts entries id p) → (ps qs : List Position) → AreGrown x ps qs
    → list_any (wakes_at facts entries id) qs ≡ list_any (wakes_at facts entries id) ps
any_grown facts entries x id same [] [] g = refl
any_grown facts entries x id same [] (q ∷ qs) g = absurd g
any_grown facts entries x id same (p ∷ ps) [] g = absurd g
any_grown facts entries x id same (p ∷ ps) (q ∷ qs) g =
    ap (λ b. b || list_any (wakes_at facts entries id) qs) (same p q g.0) ∙ ap (λ b. wakes_at facts entries id p || b) (any_grown facts entries x id same ps qs g.1)

-- at places after each of which an item more stands
blocked_grown : (facts : Facts) (entries : List Entry) (x : Item) (call : Call) → ((p q : Position) → IsGrown x p q → wakes_at facts entries call.desc q ≡ wakes_at facts entries call.desc p) → (ps qs : List Position)
    → AreGrown x ps qs → is_still_blocked facts entries call qs ≡ is_still_blocked facts entries call ps
blocked_grown facts entries x call same [] [] g = refl
blocked_grown facts entries x call same [] (q ∷ qs) g = absurd g
blocked_grown facts entries x call same (p ∷ ps) [] g = absurd g
blocked_grown facts entries x call same (p ∷ ps) (q ∷ qs) g =
    ap (λ (i : Item). (is_tagged call.client call.seq i.tag && has_blocked i.outcome && not (list_any (wakes_at facts entries call.desc) qs)) || is_still_blocked facts entries call qs) g.0.own
    ∙ ap (λ b. (waits_in call p && not b) || is_still_blocked facts entries call qs) (any_grown facts entries x call.desc same ps qs g.1)
    ∙ ap (λ b. (waits_in call p && not (list_any (wakes_at facts entries call.desc) ps)) || b) (blocked_grown facts entries x call same ps qs g.1)

-- with an entry more, whose item stands in a later boot, or which has none
module _ (facts : Facts) (h : List Entry) (e : Entry) (newer : List Item) (elsewhere : (is_by_guard e.reply || list_any (is_item_of e) newer) ≡ true) where
  abbrev wakes_by : ℕ → List Row → Position → Entry → Bool
  wakes_by id rows p x = not (is_by_guard x.reply) && is_item_of x p.item && not (list_any (is_item_of x) (items_after p)) && wakes facts rows x.call x.reply id

  any_later : (rest : List Item) → (is_by_guard e.reply || list_any (is_item_of e) (rest ++ newer)) ≡ true
  any_later [] = elsewhere
  any_later (i ∷ rest) = more (is_by_guard e.reply) (is_item_of e i) (list_any (is_item_of e) (rest ++ newer)) (any_later rest)
    where
      more : (g a l : Bool) → (g || l) ≡ true → (g || (a || l)) ≡ true
      more true a l is = refl
      more false true l is = refl
      more false false l is = is

  none_before : (p : Position) → p.newer ≡ newer → stands_before p e ≡ false
  none_before p last = none (is_by_guard e.reply) (list_any (is_item_of e) (p.older ++ p.front)) (is_item_of e p.item) (list_any (is_item_of e) (p.rest ++ p.newer))
      (ap (λ l. is_by_guard e.reply || list_any (is_item_of e) (p.rest ++ l)) last ∙ any_later p.rest)
    where
      none : (g a i l : Bool) → (g || l) ≡ true → (not g && a && not (i || l)) ≡ false
      none true a i l is = refl
      none false true true l is = refl
      none false true false true is = refl
      none false true false false is = absurd (cc is)
      none false false i l is = refl

  wakes_none : (id : ℕ) (rows : List Row) (p : Position) → p.newer ≡ newer → wakes_by id rows p e ≡ false
  wakes_none id rows p last = none (is_by_guard e.reply) (is_item_of e p.item) (list_any (is_item_of e) (p.rest ++ p.newer)) (wakes facts rows e.call e.reply id)
      (ap (λ l. is_by_guard e.reply || list_any (is_item_of e) (p.rest ++ l)) last ∙ any_later p.rest)
    where
      none : (g i l w : Bool) → (g || l) ≡ true → (not g && i && not l && w) ≡ false
      none true i l w is = refl
      none false true true w is = refl
      none false false l w is = refl
      none false true false w is = absurd (cc is)

  wakes_later : (id : ℕ) (p : Position) → p.newer ≡ newer → wakes_at facts (h ++ e ∷ []) id p ≡ wakes_at facts h id p
  wakes_later id p last =
      ap (λ es. list_any (wakes_by id (object_of facts es).rows p) (h ++ e ∷ [])) (entries_before-not_yet p h e (none_before p last))
      ∙ any_but (wakes_by id (object_before facts h p).rows p) h e (wakes_none id (object_before facts h p).rows p last)

  wakes_so : (id : ℕ) (p : Position) → p.newer ≡ newer → wakes_at facts (waking_entries facts (h ++ e ∷ [])) id p ≡ wakes_at facts (waking_entries facts h) id p
  wakes_so id p last = by facts.global
    where
      by : (g : Bool) → wakes_at facts (cond g (h ++ e ∷ []) []) id p ≡ wakes_at facts (cond g h []) id p
      by true = wakes_later id p last
      by false = refl

  any_entered : (id : ℕ) (older front items : List Item)
      → list_any (wakes_at facts (waking_entries facts (h ++ e ∷ [])) id) (places_in older front items newer) ≡ list_any (wakes_at facts (waking_entries facts h) id) (places_in older front items newer)
  any_entered id older front [] = refl
  any_entered id older front (i ∷ rest) =
      let p : Position = record { older = older; front = front; item = i; rest = rest; newer = newer } in
      ap (λ b. b || list_any (wakes_at facts (waking_entries facts (h ++ e ∷ [])) id) (places_in older (front ++ i ∷ []) rest newer)) (wakes_so id p refl)
      ∙ ap (λ b. wakes_at facts (waking_entries facts h) id p || b) (any_entered id older (front ++ i ∷ []) rest)

  blocked_entered : (call : Call) (older front items : List Item)
      → is_still_blocked facts (waking_entries facts (h ++ e ∷ [])) call (places_in older front items newer) ≡ is_still_blocked facts (waking_entries facts h) call (places_in older front items newer)
  blocked_entered call older front [] = refl
  blocked_entered call older front (i ∷ rest) =
      let p : Position = record { older = older; front = front; item = i; rest = rest; newer = newer } in
      ap (λ b. (waits_in call p && not b) || is_still_blocked facts (waking_entries facts (h ++ e ∷ [])) call (places_in older (front ++ i ∷ []) rest newer)) (any_entered call.desc older (front ++ i ∷ []) rest)
      ∙ ap (λ b. (waits_in call p && not (list_any (wakes_at facts (waking_entries facts h) call.desc) (places_in older (front ++ i ∷ []) rest newer))) || b) (blocked_entered call older (front ++ i ∷ []) rest)

-- ---- a call that asks

module _ (i : Declared) (h : List Entry) (u u' : List Call) (older items newer : List Item) where
  -- as many calls are made, or more
  pub asks_kept : AreKept h u h u' → SomeCallAsks i h u older items newer → SomeCallAsks i h u' older items newer
  asks_kept kept is = record {
    call = is.call;
    asks = record {
      admitted = record {
        under_way = under_each i.facts (stands_among (older ++ items) newer) (stands_among (older ++ items) newer) h u u' (same h) kept is.call.client is.call is.asks.admitted.under_way;
        guarded = is.asks.admitted.guarded;
      };
      unreplied = is.asks.unreplied;
      awake = is.asks.awake;
    };
  }
    where
      same : (l : List Entry) → Each (λ e. stands_among (older ++ items) newer e ≡ stands_among (older ++ items) newer e) l
      same [] = tt
      same (e ∷ l) = (refl, same l)

  -- an item is noted in a later boot
  pub asks_noted : (x : Item) → IsOfNoEntry x h → AreKept h u h u' → SomeCallAsks i h u older items newer → SomeCallAsks i h u' older items (newer ++ x ∷ [])
  asks_noted x none kept is =
      let now : Entry → Bool = stands_among (older ++ items) (newer ++ x ∷ []) in
      let was : Entry → Bool = stands_among (older ++ items) newer in
      let stand : Each (λ e. now e ≡ was e) h = same h none in
      record {
        call = is.call;
        asks = record {
          admitted = record {
            under_way = under_each i.facts was now h u u' stand kept is.call.client is.call is.asks.admitted.under_way;
            guarded = ap (λ es. guard i (object_of i.facts es) is.call) (same_filter was now h stand) ∙ is.asks.admitted.guarded;
          };
          unreplied = is.asks.unreplied;
          awake = blocked_grown i.facts (waking_entries i.facts h) x is.call (λ p q g. wakes_noted i.facts is.call.desc x p q (waking_entries i.facts h) none_waking g)
              (places_in older [] items newer) (places_in older [] items (newer ++ x ∷ [])) (in_older older [] items newer x) ∙ is.asks.awake;
        };
      }
    where
      same : (l : List Entry) → IsOfNoEntry x l → Each (λ e. stands_among (older ++ items) (newer ++ x ∷ []) e ≡ stands_among (older ++ items) newer e) l
      same [] none = tt
      same (e ∷ l) none = (ap (λ b. not (is_by_guard e.reply) && list_any (is_item_of e) (older ++ items) && not b) (any_more (is_item_of e) newer x none.0), same l none.1)

      none_waking : IsOfNoEntry x (waking_entries i.facts h)
      none_waking = by i.facts.global
        where
          by : (g : Bool) → IsOfNoEntry x (cond g h [])
          by true = none
          by false = tt

  -- an entry is appended of its client's last call, whose item stands in a later boot, or which has none
  pub asks_entered : (e : Entry) → (is_by_guard e.reply || list_any (is_item_of e) newer) ≡ true → IsLastCall h u e.call → AreKept h u (h ++ e ∷ []) u' → SomeCallAsks i h u older items newer
      → SomeCallAsks i (h ++ e ∷ []) u' older items newer
  asks_entered e elsewhere last kept is =
      let before : Entry → Bool = stands_among (older ++ items) newer in
      let none : before e ≡ false = apart (is_by_guard e.reply) (list_any (is_item_of e) (older ++ items)) (list_any (is_item_of e) newer) elsewhere in
      record {
        call = is.call;
        asks = record {
          admitted = record {
            under_way = under_more i.facts h e u u' before none last kept is.call.client is.call is.asks.admitted.under_way;
            guarded = ap (λ es. guard i (object_of i.facts es) is.call) (filter_push before h e none) ∙ is.asks.admitted.guarded;
          };
          unreplied = is.asks.unreplied;
          awake = blocked_entered i.facts h e newer elsewhere is.call older [] items ∙ is.asks.awake;
        };
      }
    where
      apart : (g a l : Bool) → (g || l) ≡ true → (not g && a && not l) ≡ false
      apart true a l is = refl
      apart false true true is = refl
      apart false true false is = absurd (cc is)
      apart false false l is = refl
