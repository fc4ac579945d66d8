-- Boots that stopped right after the commit of an entry, whatever comes next.
use Rattle.std.proofs.Common.{◌≡◌, ℕ, ◌<◌, ◌≤◌, Bool, true, false, cond, not, ◌&&◌, ◌||◌, List, [], ◌∷◌, ◌++◌, Option, None, Some, length, refl, sym, ◌∙◌, ap, subst, arith, length-append}
use Rattle.std.proofs.lemmas.Bool.Decides.{nat_tests}
use Rattle.std.proofs.lemmas.List.{reverse-append}
use Rattle.std.proofs.lemmas.List.Folds.{list_any-append}
use Rattle.std.specs.List.{last_or, list_any}
use Rattle.std.specs.Option.{option_map_or}
use Rattle.std.specs.Prelude.{◌==◌, find, nat_lt, reverse, unwrap_or}
use Rattle.sg_facts.specs.sg_base.Lists.{Each, When}
use Rattle.sg_facts.specs.sg_base.Stops.{asked_after}
use Rattle.sg_facts.specs.declared.entry.Entry.{Entry}
use Rattle.sg_facts.specs.declared.trace.Item.{Item}
use Rattle.sg_facts.specs.declared.trace.Tag.{Tag}
use Rattle.sg_facts.specs.declared.trace.Tag.TheVariants.{Walk, Load, Client}
use Rattle.sg_facts.specs.Facts.{Facts}
use Rattle.sg_facts.specs.Trace.{Boot}
use Rattle.sg_hist.specs.Growing.{asked_over, booted, last_stop, noted, struck}
use Rattle.sg_hist.specs.Inside.Parts.{IsCommitted}
use Rattle.sg_hist.specs.Reading.{Position, is_by_guard, is_item_of, is_tagged, items_after, items_of, last_items, older_items, places_from, places_in}
use Rattle.sg_hist.specs.Recovered.{asked_in, asked_with_commit, is_entered, is_stopped_after, is_visible_reply}
use Rattle.sg_recovery_laws.proofs.Lists.{each_append, each_split}
use Rattle.sg_recovery_laws.proofs.Served.{each_reverse}

-- ---- one boot

-- whether a stop comes right after the commit of an entry, where this is the last item
abbrev is_right_after : Facts → Entry → Option ℕ → Option Item → Bool
is_right_after facts e stop last =
    option_map_or (λ item. is_item_of e item && is_visible_reply facts item && option_map_or (λ n. nat_lt n (asked_after item.points 2)) stop false) last false

nor : (a b : Bool) → (a && b && false) ≡ false
nor true true = refl
nor true false = refl
nor false b = refl

-- a boot that goes on didn't stop so
none_running : (facts : Facts) (e : Entry) (b : Boot) → b.stop ≡ None → is_stopped_after facts e b ≡ false
none_running facts e b running = ap (λ stop. is_right_after facts e stop (last_or None b.items)) running ∙ at (last_or None b.items)
  where
    at : (last : Option Item) → is_right_after facts e None last ≡ false
    at None = refl
    at (Some item) = nor (is_item_of e item) (is_visible_reply facts item)

-- nor one whose last item is another's
pub none_other : (facts : Facts) (e : Entry) (stop : ℕ) (items : List Item) (item : Item) → is_item_of e item ≡ false → is_stopped_after facts e (record { items = items ++ item ∷ []; stop = Some stop }) ≡ false
none_other facts e stop items item other = ap (is_right_after facts e (Some stop)) (last_is None items) ∙ ap (λ t. t && is_visible_reply facts item && nat_lt stop (asked_after item.points 2)) other ∙ nothing (is_visible_reply facts item) (nat_lt stop (asked_after item.points 2))
  where
    last_is : (before : Option Item) (items : List Item) → last_or before (items ++ item ∷ []) ≡ Some item
    last_is before [] = refl
    last_is before (x ∷ items) = last_is (Some x) items

    nothing : (a b : Bool) → (false && a && b) ≡ false
    nothing a b = refl

not_less : (m n : ℕ) → n ≤ m → nat_lt m n ≡ false
not_less m n le = grind (arith, nat_tests, le)

-- how many points were asked after the last item
asked_later : (facts : Facts) (x : Item) (items : List Item) (item : Item) → last_or (Some x) items ≡ Some item → asked_in facts (asked_with_commit facts x) items ≡ asked_with_commit facts item
asked_later facts x [] item is = let same : x ≡ item = cc is in ap (asked_with_commit facts) same
asked_later facts x (y ∷ items) item is = asked_later facts y items item is

asked_last : (facts : Facts) (n : ℕ) (items : List Item) (item : Item) → last_or None items ≡ Some item → asked_in facts n items ≡ asked_with_commit facts item
asked_last facts n [] item is = absurd (cc is)
asked_last facts n (x ∷ items) item is = asked_later facts x items item is

-- nor one that stopped at the point at which the service was used next
none_late : (facts : Facts) (e : Entry) (n stop : ℕ) (items : List Item) → asked_after (asked_in facts n items) 1 ≤ stop → is_stopped_after facts e (record { items = items; stop = Some stop }) ≡ false
none_late facts e n stop items late = at (last_or None items) refl
  where
    at : (last : Option Item) → last_or None items ≡ last → is_right_after facts e (Some stop) last ≡ false
    at None is = refl
    at (Some item) is = by (is_visible_reply facts item) refl
      where
        by : (v : Bool) → is_visible_reply facts item ≡ v → (is_item_of e item && v && nat_lt stop (asked_after item.points 2)) ≡ false
        by false hidden = nothing (is_item_of e item) (nat_lt stop (asked_after item.points 2))
          where
            nothing : (a b : Bool) → (a && false && b) ≡ false
            nothing true b = refl
            nothing false b = refl
        by true visible =
            let asked : asked_in facts n items ≡ asked_after item.points 1 = asked_last facts n items item is ∙ ap (λ v. cond v (asked_after item.points 1) item.points) visible in
            let far : asked_after item.points 2 ≤ stop = omega (arith, asked, late) in
            ap (λ t. is_item_of e item && true && t) (not_less stop (asked_after item.points 2) far) ∙ nor (is_item_of e item) true

-- ---- all boots

pub after_noted : (facts : Facts) (e : Entry) (b : Boot) (boots : List Boot) (item : Item) → last_stop (b ∷ boots) ≡ None
    → list_any (is_stopped_after facts e) (noted (b ∷ boots) item) ≡ list_any (is_stopped_after facts e) (b ∷ boots)
after_noted facts e b [] item running = ap (λ t. t || false) (none_running facts e (record b { items = b.items ++ item ∷ [] }) running ∙ sym (none_running facts e b running))
after_noted facts e b (c ∷ boots) item running = ap (λ t. is_stopped_after facts e b || t) (after_noted facts e c boots item running)

pub after_booted : (facts : Facts) (e : Entry) (boots : List Boot) → list_any (is_stopped_after facts e) (booted boots) ≡ list_any (is_stopped_after facts e) boots
after_booted facts e [] = refl
after_booted facts e (b ∷ boots) = ap (λ t. is_stopped_after facts e b || t) (after_booted facts e boots)

pub after_struck : (facts : Facts) (e : Entry) (boots : List Boot) (stop : ℕ) → last_stop boots ≡ None
    → is_stopped_after facts e (record { items = last_items boots; stop = Some stop }) ≡ false → list_any (is_stopped_after facts e) (struck boots stop) ≡ list_any (is_stopped_after facts e) boots
after_struck facts e [] stop running none = refl
after_struck facts e (b ∷ []) stop running none = ap (λ t. t || false) (none ∙ sym (none_running facts e b running))
after_struck facts e (b ∷ c ∷ boots) stop running none = ap (λ t. is_stopped_after facts e b || t) (after_struck facts e (c ∷ boots) stop running none)

-- a stop at the point at which the service was used next is right after no commit
pub none_between : (facts : Facts) (e : Entry) (asked : ℕ) (boots : List Boot) (stop : ℕ) → last_stop boots ≡ None → asked_after (asked_over facts asked boots) 1 ≤ stop
    → is_stopped_after facts e (record { items = last_items boots; stop = Some stop }) ≡ false
none_between facts e asked [] stop running late = refl
none_between facts e asked (b ∷ []) stop running late =
    none_late facts e asked stop b.items (subst (λ s. asked_after (unwrap_or s (asked_in facts asked b.items)) 1 ≤ stop) running late)
none_between facts e asked (b ∷ c ∷ boots) stop running late = none_between facts e (unwrap_or b.stop (asked_in facts asked b.items)) (c ∷ boots) stop running late

-- ---- the place of an entry after whose commit a boot stopped

test_same : (m n : ℕ) → (m == n) ≡ true → m ≡ n
test_same m n is = grind (arith, nat_tests, is)

-- entries that an item is of have the same items
same_items : (e x : Entry) (item : Item) → is_item_of e item ≡ true → is_item_of x item ≡ true → (other : Item) → is_item_of e other ≡ is_item_of x other
same_items e x item own its other = at item.tag own its
  where
    at : (tag : Tag) → is_tagged e.call.client e.call.seq tag ≡ true → is_tagged x.call.client x.call.seq tag ≡ true → is_tagged e.call.client e.call.seq other.tag ≡ is_tagged x.call.client x.call.seq other.tag
    at (Walk id k client) one two = absurd (cc one)
    at (Load key client) one two = absurd (cc one)
    at (Client client seq) one two =
        let a = both_hold (client == e.call.client) (seq == e.call.seq) one in
        let b = both_hold (client == x.call.client) (seq == x.call.seq) two in
        let same_client : e.call.client ≡ x.call.client = sym (test_same client e.call.client a.0) ∙ test_same client x.call.client b.0 in
        let same_seq : e.call.seq ≡ x.call.seq = sym (test_same seq e.call.seq a.1) ∙ test_same seq x.call.seq b.1 in
        ap (λ n. is_tagged n e.call.seq other.tag) same_client ∙ ap (λ n. is_tagged x.call.client n other.tag) same_seq
      where
        both_hold : (p q : Bool) → (p && q) ≡ true → (p ≡ true) × (q ≡ true)
        both_hold true true is = (refl, refl)
        both_hold true false is = absurd (cc is)
        both_hold false q is = absurd (cc is)

any_same : (f g : Item → Bool) (items : List Item) → ((item : Item) → f item ≡ g item) → list_any f items ≡ list_any g items
any_same f g [] same = refl
any_same f g (x ∷ items) same = ap (λ t. t || list_any f items) (same x) ∙ ap (λ t. g x || t) (any_same f g items same)

-- no item after a committed one is of its entry
last_own : (history : List Entry) (e : Entry) (p : Position) → is_item_of e p.item ≡ true → is_entered history p ≡ true → list_any (is_item_of e) (items_after p) ≡ false
last_own [] e p own entered = absurd (cc entered)
last_own (x ∷ history) e p own entered = by (is_by_guard x.reply) (is_item_of x p.item) (list_any (is_item_of x) (items_after p)) refl refl (last_own history e p own) entered
  where
    by : (g i a : Bool) → is_item_of x p.item ≡ i → list_any (is_item_of x) (items_after p) ≡ a
        → (is_entered history p ≡ true → list_any (is_item_of e) (items_after p) ≡ false)
        → ((not g && i && not a) || list_any (λ y. not (is_by_guard y.reply) && is_item_of y p.item && not (list_any (is_item_of y) (items_after p))) history) ≡ true
        → list_any (is_item_of e) (items_after p) ≡ false
    by false true false its none rest is = any_same (is_item_of e) (is_item_of x) (items_after p) (same_items e x p.item own its) ∙ none
    by false true true its none rest is = rest is
    by false false a its none rest is = rest is
    by true i a its none rest is = rest is

-- where a boot ends with an item, its last place is of that
record EndsWith (older front items newer : List Item) (item : Item) : Type 0 where
  earlier : List Position
  before : List Item
  are : places_in older front items newer ≡ earlier ++ record { older = older; front = before; item = item; rest = []; newer = newer } ∷ []

ends_with : (older front : List Item) (x : Item) (items newer : List Item) (item : Item) → last_or (Some x) items ≡ Some item → EndsWith older front (x ∷ items) newer item
ends_with older front x [] newer item is =
    let same : x ≡ item = cc is in
    record { earlier = []; before = front; are = ap (λ i. record { older = older; front = front; item = i; rest = []; newer = newer } ∷ []) same }
ends_with older front x (y ∷ items) newer item is =
    let l = ends_with older (front ++ x ∷ []) y items newer item is in
    record { earlier = record { older = older; front = front; item = x; rest = y ∷ items; newer = newer } ∷ l.earlier; before = l.before; are = ap (λ ps. record { older = older; front = front; item = x; rest = y ∷ items; newer = newer } ∷ ps) l.are }

-- where no item passes, no place does
abbrev Fails : (Item → Bool) → Position → Type 0
Fails test p = test p.item ≡ false

none_in : (test : Item → Bool) (older front items newer : List Item) → list_any test items ≡ false → Each (Fails test) (places_in older front items newer)
none_in test older front [] newer none = tt
none_in test older front (x ∷ items) newer none = by (test x) refl (none_in test older (front ++ x ∷ []) items newer) none
  where
    by : (t : Bool) → test x ≡ t → (list_any test items ≡ false → Each (Fails test) (places_in older (front ++ x ∷ []) items newer)) → (t || list_any test items) ≡ false
        → Each (Fails test) (places_in older front (x ∷ items) newer)
    by true is rest none = absurd (cc none)
    by false is rest none = (is, rest none)

none_from : (test : Item → Bool) (older : List Item) (boots : List Boot) → list_any test (items_of boots) ≡ false → Each (Fails test) (places_from older boots)
none_from test older [] none = tt
none_from test older (b ∷ boots) none =
    let two = neither (list_any test b.items) (list_any test (items_of boots)) (sym (list_any-append test b.items (items_of boots)) ∙ none) in
    each_append (Fails test) (places_in older [] b.items (items_of boots)) (places_from (older ++ b.items) boots) (none_in test older [] b.items (items_of boots) two.0) (none_from test (older ++ b.items) boots two.1)
  where
    neither : (p q : Bool) → (p || q) ≡ false → (p ≡ false) × (q ≡ false)
    neither false false is = (refl, refl)
    neither false true is = absurd (cc is)
    neither true q is = absurd (cc is)

find_rest : (test : Item → Bool) (ps qs : List Position) → Each (Fails test) ps → find (λ p. test p.item) (ps ++ qs) ≡ find (λ p. test p.item) qs
find_rest test [] qs none = refl
find_rest test (p ∷ ps) qs none = ap (λ t. cond t (Some p) (find (λ p. test p.item) (ps ++ qs))) none.0 ∙ find_rest test ps qs none.1

find_first : (test : Position → Bool) (ps qs : List Position) (p : Position) → find test ps ≡ Some p → find test (ps ++ qs) ≡ Some p
find_first test [] qs p is = absurd (cc is)
find_first test (x ∷ ps) qs p is = by (test x) is (find_first test ps qs p)
  where
    by : (t : Bool) → cond t (Some x) (find test ps) ≡ Some p → (find test ps ≡ Some p → find test (ps ++ qs) ≡ Some p) → cond t (Some x) (find test (ps ++ qs)) ≡ Some p
    by true is rest = is
    by false is rest = rest is

-- it stands before the last boot
pub record StandsEarlier (e : Entry) (before : List Item) (boots : List Boot) : Type 0 where
  pub place : Position
  pub its : find (λ p. is_item_of e p.item) (reverse (places_from before boots)) ≡ Some place
  pub earlier : length place.older < length (older_items before boots)

older_grows : (before : List Item) (b : Boot) (boots : List Boot) → length before ≤ length (older_items before (b ∷ boots))
older_grows before b [] = omega arith
older_grows before b (c ∷ boots) = let more = older_grows (before ++ b.items) c boots in let n = length-append before b.items in omega (arith, more, n)

module _ (facts : Facts) (history : List Entry) (e : Entry) where
  pub stands_earlier : (before : List Item) (boots : List Boot) → last_stop boots ≡ None → Each (IsCommitted facts history) (places_from before boots)
      → list_any (is_stopped_after facts e) boots ≡ true → StandsEarlier e before boots
  stands_earlier before [] running committed any = absurd (cc any)
  stands_earlier before (b ∷ []) running committed any = absurd (cc (sym any ∙ ap (λ t. t || false) (none_running facts e b running)))
  stands_earlier before (b ∷ c ∷ boots) running committed any =
      let two = each_split (IsCommitted facts history) (places_in before [] b.items (items_of (c ∷ boots))) (places_from (before ++ b.items) (c ∷ boots)) committed in
      by (list_any (is_stopped_after facts e) (c ∷ boots)) refl (stands_earlier (before ++ b.items) (c ∷ boots) running two.1) two.0
    where
      here : List Position
      here = places_in before [] b.items (items_of (c ∷ boots))

      later : List Position
      later = places_from (before ++ b.items) (c ∷ boots)

      first_two : (p q r : Bool) → (p && q && r) ≡ true → (p ≡ true) × (q ≡ true)
      first_two true true r is = (refl, refl)
      first_two true false r is = absurd (cc is)
      first_two false q r is = absurd (cc is)

      -- the boot itself stopped so
      own : is_stopped_after facts e b ≡ true → Each (IsCommitted facts history) (places_in before [] b.items (items_of (c ∷ boots))) → StandsEarlier e before (b ∷ c ∷ boots)
      own stopped all = at b.items stopped all refl
        where
          at : (items : List Item) → is_right_after facts e b.stop (last_or None items) ≡ true → Each (IsCommitted facts history) (places_in before [] items (items_of (c ∷ boots))) → items ≡ b.items → StandsEarlier e before (b ∷ c ∷ boots)
          at [] stopped all same = absurd (cc stopped)
          at (x ∷ items) stopped all same = ending (last_or (Some x) items) refl stopped
            where
              ending : (last : Option Item) → last_or (Some x) items ≡ last → is_right_after facts e b.stop last ≡ true → StandsEarlier e before (b ∷ c ∷ boots)
              ending None is stopped = absurd (cc stopped)
              ending (Some item) is stopped =
                  let two = first_two (is_item_of e item) (is_visible_reply facts item) (option_map_or (λ n. nat_lt n (asked_after item.points 2)) b.stop false) stopped in
                  let l = ends_with before [] x items (items_of (c ∷ boots)) item is in
                  let last : Position = record { older = before; front = l.before; item = item; rest = []; newer = items_of (c ∷ boots) } in
                  let settled = (each_split (IsCommitted facts history) l.earlier (last ∷ []) (subst (Each (IsCommitted facts history)) l.are all)).1.0 in
                  let entered : is_entered history last ≡ true = subst (λ v. When v (is_entered history last ≡ true)) two.1 settled in
                  let none : list_any (is_item_of e) (items_of (c ∷ boots)) ≡ false = last_own history e last two.0 entered in
                  let more = older_grows (before ++ b.items) c boots in
                  let n = length-append before b.items in
                  let some = ap length same in
                  record {
                    place = last;
                    its = ap (find (λ p. is_item_of e p.item)) (reverse-append here later)
                        ∙ find_rest (is_item_of e) (reverse later) (reverse here) (each_reverse (Fails (is_item_of e)) later (none_from (is_item_of e) (before ++ b.items) (c ∷ boots) none))
                        ∙ ap (λ l. find (λ p. is_item_of e p.item) (reverse (places_in before [] l (items_of (c ∷ boots))))) (sym same)
                        ∙ ap (λ ps. find (λ p. is_item_of e p.item) (reverse ps)) l.are
                        ∙ ap (find (λ p. is_item_of e p.item)) (reverse-append l.earlier (last ∷ []))
                        ∙ ap (λ t. cond t (Some last) (find (λ p. is_item_of e p.item) (reverse l.earlier))) two.0;
                    earlier = omega (arith, more, n, some);
                  }

      by : (t : Bool) → list_any (is_stopped_after facts e) (c ∷ boots) ≡ t → (list_any (is_stopped_after facts e) (c ∷ boots) ≡ true → StandsEarlier e (before ++ b.items) (c ∷ boots))
          → Each (IsCommitted facts history) (places_in before [] b.items (items_of (c ∷ boots))) → StandsEarlier e before (b ∷ c ∷ boots)
      by true is rest all =
          let s = rest is in
          record {
            place = s.place;
            its = ap (find (λ p. is_item_of e p.item)) (reverse-append here later) ∙ find_first (λ p. is_item_of e p.item) (reverse later) (reverse here) s.place s.its;
            earlier = s.earlier;
          }
      by false is rest all = own (first (is_stopped_after facts e b) (sym (ap (λ t. is_stopped_after facts e b || t) is) ∙ any)) all
        where
          first : (t : Bool) → (t || false) ≡ true → t ≡ true
          first true is = refl
          first false is = absurd (cc is)
