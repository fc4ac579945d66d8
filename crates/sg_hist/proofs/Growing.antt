-- What stays as it is where a run grows.
use Rattle.std.proofs.Common.{◌≡◌, ℕ, Bool, true, false, not, ◌&&◌, ◌||◌, List, [], ◌∷◌, ◌++◌, Some, cond, refl, sym, ◌∙◌, ap, subst, append-nil, append_assoc}
use Rattle.std.proofs.lemmas.Grind.{flat_map-append}
use Rattle.std.specs.List.{fold, list_any}
use Rattle.std.specs.Prelude.{filter}
use Rattle.sg_facts.specs.declared.entry.Entry.{Entry}
use Rattle.sg_facts.specs.declared.trace.Item.{Item}
use Rattle.sg_facts.specs.Facts.{Facts}
use Rattle.sg_facts.specs.Interface.{Declared}
use Rattle.sg_facts.specs.Legal.{IsLegal, LegalFrom, Table, answer}
use Rattle.sg_facts.specs.Object.{Object, after, empty_object, object_of}
use Rattle.sg_facts.specs.Inside.Rows.{object_from}
use Rattle.sg_facts.proofs.Legality.{IsLegal-from, LegalFrom-is}
use Rattle.sg_facts.specs.Trace.{Boot}
use Rattle.sg_hist.specs.Growing.{AreGrown, HasOneMore, IsGrown, IsOfNoEntry, booted, noted, place_after, struck}
use Rattle.sg_hist.specs.Reading.{Position, items_after, is_by_guard, is_item_of, items_of, names_at, places_from, places_in, stands_before, value_at}
use Rattle.sg_hist.specs.Inside.Reads.{after_item, entries_before, names_in, past}

-- ---- an entry more

object_more : (facts : Facts) (o : Object) (history : List Entry) (e : Entry)
    → object_from facts o (history ++ e ∷ []) ≡ after facts (object_from facts o history) e.call e.reply
object_more facts o [] e = refl
object_more facts o (x ∷ history) e = object_more facts (after facts o x.call x.reply) history e

-- the object after an entry more
pub object_of-more : (facts : Facts) (history : List Entry) (e : Entry)
    → object_of facts (history ++ e ∷ []) ≡ after facts (object_of facts history) e.call e.reply
object_of-more facts history e = object_more facts empty_object history e

legal_from-more : (i : Declared) (ask : Table) (o : Object) (history : List Entry) (e : Entry) → LegalFrom i ask o history
    → answer i ask (object_from i.facts o history) e.call ≡ Some e.reply → LegalFrom i ask o (history ++ e ∷ [])
legal_from-more i ask o [] e legal is = (is, tt)
legal_from-more i ask o (x ∷ history) e legal is = (legal.0, legal_from-more i ask (after i.facts o x.call x.reply) history e legal.1 is)

-- a legal history stays so with an entry that is the answer after it
pub legal-more : (i : Declared) (ask : Table) (history : List Entry) (e : Entry) → IsLegal i ask history
    → answer i ask (object_of i.facts history) e.call ≡ Some e.reply → IsLegal i ask (history ++ e ∷ [])
legal-more i ask history e legal is =
    IsLegal-from i ask (history ++ e ∷ []) (legal_from-more i ask empty_object history e (LegalFrom-is i ask history legal) is)

-- ---- places

pub any_more : (test : Item → Bool) (items : List Item) (item : Item) → test item ≡ false → list_any test (items ++ item ∷ []) ≡ list_any test items
any_more test [] item none = ap (λ b. b || false) none
any_more test (x ∷ items) item none = ap (λ b. test x || b) (any_more test items item none)

pub any_last : (test : Item → Bool) (items : List Item) (item : Item) → test item ≡ true → list_any test (items ++ item ∷ []) ≡ true
any_last test [] item one = ap (λ b. b || false) one
any_last test (x ∷ items) item one = ap (λ b. test x || b) (any_last test items item one) ∙ either (test x)
  where
    either : (b : Bool) → b || true ≡ true
    either true = refl
    either false = refl

past_same : (item : Item) (p q : Position) → IsGrown item p q → past q ≡ past p
past_same item p q g = ap (λ v. v ++ q.front) g.older ∙ ap (λ v. p.older ++ v) g.front

-- an entry whose item isn't the one that was noted stands before a place as it did
pub stands_before-more : (item : Item) (p q : Position) (e : Entry) → IsGrown item p q → is_item_of e item ≡ false → stands_before q e ≡ stands_before p e
stands_before-more item p q e g none =
    let earlier : list_any (is_item_of e) (past q) ≡ list_any (is_item_of e) (past p) = ap (list_any (is_item_of e)) (past_same item p q g) in
    let own : is_item_of e q.item ≡ is_item_of e p.item = ap (is_item_of e) g.own in
    let later : list_any (is_item_of e) (items_after q) ≡ list_any (is_item_of e) (items_after p) = ap (list_any (is_item_of e)) g.after_it ∙ any_more (is_item_of e) (items_after p) item none in
    ap (λ b. not (is_by_guard e.reply) && b && not (is_item_of e q.item || list_any (is_item_of e) (items_after q))) earlier
    ∙ ap (λ b. not (is_by_guard e.reply) && list_any (is_item_of e) (past p) && not (b || list_any (is_item_of e) (items_after q))) own
    ∙ ap (λ b. not (is_by_guard e.reply) && list_any (is_item_of e) (past p) && not (is_item_of e p.item || b)) later

-- the entry of the item that was noted doesn't stand before any place that was there
pub stands_before-own : (item : Item) (p q : Position) (e : Entry) → IsGrown item p q → is_item_of e item ≡ true → stands_before q e ≡ false
stands_before-own item p q e g one =
    let later : list_any (is_item_of e) (items_after q) ≡ true = ap (list_any (is_item_of e)) g.after_it ∙ any_last (is_item_of e) (items_after p) item one in
    ap (λ b. not (is_by_guard e.reply) && list_any (is_item_of e) (past q) && not (is_item_of e q.item || b)) later
    ∙ nothing (not (is_by_guard e.reply)) (list_any (is_item_of e) (past q)) (is_item_of e q.item)
  where
    nothing : (a b c : Bool) → a && b && not (c || true) ≡ false
    nothing true true true = refl
    nothing true true false = refl
    nothing true false c = refl
    nothing false b c = refl

-- the entries before a place stay where an item is noted that is none of theirs
pub entries_before-more : (item : Item) (p q : Position) (history : List Entry) → IsGrown item p q → IsOfNoEntry item history
    → entries_before history q ≡ entries_before history p
entries_before-more item p q [] g none = refl
entries_before-more item p q (e ∷ history) g none =
    ap (λ b. cond b (e ∷ entries_before history q) (entries_before history q)) (stands_before-more item p q e g none.0)
    ∙ ap (λ v. cond (stands_before p e) (e ∷ v) v) (entries_before-more item p q history g none.1)

filter_more : (test : Entry → Bool) (history : List Entry) (e : Entry) → test e ≡ false → filter test (history ++ e ∷ []) ≡ filter test history
filter_more test [] e none = ap (λ b. cond b (e ∷ []) []) none
filter_more test (x ∷ history) e none = ap (λ v. cond (test x) (x ∷ v) v) (filter_more test history e none)

-- they stay where an item is noted together with its entry
pub entries_before-committed : (item : Item) (p q : Position) (history : List Entry) (e : Entry) → IsGrown item p q → IsOfNoEntry item history → is_item_of e item ≡ true
    → entries_before (history ++ e ∷ []) q ≡ entries_before history p
entries_before-committed item p q history e g none own =
    filter_more (stands_before q) history e (stands_before-own item p q e g own) ∙ entries_before-more item p q history g none

-- they stay where a refusal by the guard is appended, for which nothing was noted
pub entries_before-refused : (p : Position) (history : List Entry) (e : Entry) → is_by_guard e.reply ≡ true → entries_before (history ++ e ∷ []) p ≡ entries_before history p
entries_before-refused p history e guards =
    filter_more (stands_before p) history e (ap (λ b. not b && list_any (is_item_of e) (past p) && not (list_any (is_item_of e) (p.item ∷ items_after p))) guards)

-- a held reply that is committed stands before the places after its item
pub entries_before-held : (p : Position) (history : List Entry) (e : Entry) → stands_before p e ≡ true → entries_before (history ++ e ∷ []) p ≡ entries_before history p ++ e ∷ []
entries_before-held p [] e before = ap (λ b. cond b (e ∷ []) []) before
entries_before-held p (x ∷ history) e before = by (entries_before-held p history e before) (stands_before p x)
  where
    by : entries_before (history ++ e ∷ []) p ≡ entries_before history p ++ e ∷ [] → (b : Bool)
        → cond b (x ∷ entries_before (history ++ e ∷ []) p) (entries_before (history ++ e ∷ []) p) ≡ cond b (x ∷ entries_before history p) (entries_before history p) ++ e ∷ []
    by rest true = ap (λ v. x ∷ v) rest
    by rest false = rest

-- and before no other
pub entries_before-not_yet : (p : Position) (history : List Entry) (e : Entry) → stands_before p e ≡ false → entries_before (history ++ e ∷ []) p ≡ entries_before history p
entries_before-not_yet p history e before = filter_more (stands_before p) history e before

-- ---- an item more

-- the place of an item after those of its boot
abbrev pub last_in : List Item → List Item → Item → Position
last_in older front item = record { older = older; front = front; item = item; rest = []; newer = [] }

pub in_boot : (older front items : List Item) (item : Item)
    → HasOneMore item (last_in older (front ++ items) item) (places_in older front items []) (places_in older front (items ++ item ∷ []) [])
in_boot older front [] item = record {
  grown = [];
  are = ap (λ v. last_in older v item ∷ []) (sym (append-nil front));
  each = tt;
}
in_boot older front (x ∷ items) item =
    let more = in_boot older (front ++ x ∷ []) items item in
    let own : Position = record { older = older; front = front; item = x; rest = items ++ item ∷ []; newer = [] } in
    record {
      grown = own ∷ more.grown;
      are = ap (λ v. own ∷ v) more.are
          ∙ ap (λ v. own ∷ more.grown ++ last_in older v item ∷ []) (append_assoc front (x ∷ []) items);
      each = (
        record {
          older = refl;
          front = refl;
          own = refl;
          after_it = append-nil (items ++ item ∷ []) ∙ ap (λ v. v ++ item ∷ []) (sym (append-nil items));
        },
        more.each,
      );
    }

-- places of a boot grow where an item is noted in a later one
pub in_older : (older front items newer : List Item) (item : Item)
    → AreGrown item (places_in older front items newer) (places_in older front items (newer ++ item ∷ []))
in_older older front [] newer item = tt
in_older older front (x ∷ items) newer item = (
  record { older = refl; front = refl; own = refl; after_it = sym (append_assoc items newer (item ∷ [])) },
  in_older older (front ++ x ∷ []) items newer item,
)

pub both_grown : (item : Item) (ps qs ps' qs' : List Position) → AreGrown item ps qs → AreGrown item ps' qs' → AreGrown item (ps ++ ps') (qs ++ qs')
both_grown item [] [] ps' qs' one other = other
both_grown item [] (q ∷ qs) ps' qs' one other = absurd one
both_grown item (p ∷ ps) [] ps' qs' one other = absurd one
both_grown item (p ∷ ps) (q ∷ qs) ps' qs' one other = (one.0, both_grown item ps qs ps' qs' one.1 other)

pub items_more : (b : Boot) (boots : List Boot) (item : Item) → items_of (noted (b ∷ boots) item) ≡ items_of (b ∷ boots) ++ item ∷ []
items_more b [] item = append-nil (b.items ++ item ∷ []) ∙ ap (λ v. v ++ item ∷ []) (sym (append-nil b.items))
items_more b (c ∷ boots) item = ap (λ v. b.items ++ v) (items_more c boots item) ∙ sym (append_assoc b.items (items_of (c ∷ boots)) (item ∷ []))

-- the places of boots, one of which there is, are those before with an item more after each, and its own
pub places-more : (older : List Item) (b : Boot) (boots : List Boot) (item : Item)
    → HasOneMore item (place_after older (b ∷ boots) item) (places_from older (b ∷ boots)) (places_from older (noted (b ∷ boots) item))
places-more older b [] item =
    let more = in_boot older [] b.items item in
    record {
      grown = more.grown;
      are = append-nil (places_in older [] (b.items ++ item ∷ []) []) ∙ more.are;
      each = subst (λ ps. AreGrown item ps more.grown) (sym (append-nil (places_in older [] b.items []))) more.each;
    }
places-more older b (c ∷ boots) item =
    let more = places-more (older ++ b.items) c boots item in
    let items = items_more c boots item in
    let here = places_in older [] b.items (items_of (c ∷ boots) ++ item ∷ []) in
    let last = place_after older (b ∷ c ∷ boots) item in
    record {
      grown = here ++ more.grown;
      are = ap (λ v. places_in older [] b.items v ++ places_from (older ++ b.items) (noted (c ∷ boots) item)) items
          ∙ ap (λ v. here ++ v) more.are ∙ sym (append_assoc here more.grown (last ∷ []));
      each = both_grown item (places_in older [] b.items (items_of (c ∷ boots))) here (places_from (older ++ b.items) (c ∷ boots)) more.grown
          (in_older older [] b.items (items_of (c ∷ boots)) item) more.each;
    }

-- after all items of the boots stands the place of the item that is noted last
pub past_all : (older : List Item) (b : Boot) (boots : List Boot) (item : Item) → past (place_after older (b ∷ boots) item) ≡ older ++ items_of (b ∷ boots)
past_all older b [] item = ap (λ v. older ++ v) (sym (append-nil b.items))
past_all older b (c ∷ boots) item = past_all (older ++ b.items) c boots item ∙ append_assoc older b.items (items_of (c ∷ boots))

-- ---- a boot more

pub items_struck : (boots : List Boot) (stop : ℕ) → items_of (struck boots stop) ≡ items_of boots
items_struck [] stop = refl
items_struck (b ∷ []) stop = refl
items_struck (b ∷ c ∷ boots) stop = ap (λ v. b.items ++ v) (items_struck (c ∷ boots) stop)

-- a stop changes no place
pub places-struck : (older : List Item) (boots : List Boot) (stop : ℕ) → places_from older (struck boots stop) ≡ places_from older boots
places-struck older [] stop = refl
places-struck older (b ∷ []) stop = refl
places-struck older (b ∷ c ∷ boots) stop =
    ap (λ v. places_in older [] b.items v ++ places_from (older ++ b.items) (struck (c ∷ boots) stop)) (items_struck (c ∷ boots) stop)
    ∙ ap (λ v. places_in older [] b.items (items_of (c ∷ boots)) ++ v) (places-struck (older ++ b.items) (c ∷ boots) stop)

pub items_booted : (boots : List Boot) → items_of (booted boots) ≡ items_of boots
items_booted [] = refl
items_booted (b ∷ boots) = ap (λ v. b.items ++ v) (items_booted boots)

-- nor does a boot
pub places-booted : (older : List Item) (boots : List Boot) → places_from older (booted boots) ≡ places_from older boots
places-booted older [] = refl
places-booted older (b ∷ boots) =
    ap (λ v. places_in older [] b.items v ++ places_from (older ++ b.items) (booted boots)) (items_booted boots)
    ∙ ap (λ v. places_in older [] b.items (items_of boots) ++ v) (places-booted (older ++ b.items) boots)

-- ---- what the service holds

value_from : (facts : Facts) (o : Object) (front : List Item) (item : Item)
    → fold (after_item facts) o (front ++ item ∷ []) ≡ after_item facts (fold (after_item facts) o front) item
value_from facts o [] item = refl
value_from facts o (x ∷ front) item = value_from facts (after_item facts o x) front item

-- what it holds after an item more is what the item makes of what it held
pub value_at-more : (facts : Facts) (front : List Item) (item : Item) → value_at facts (front ++ item ∷ []) ≡ after_item facts (value_at facts front) item
value_at-more facts front item = value_from facts empty_object front item

-- an item more adds the pair that it gives
pub names_at-more : (facts : Facts) (history : List Entry) (front : List Item) (item : Item)
    → names_at facts history (front ++ item ∷ []) ≡ names_at facts history front ++ names_in facts history item.shown.fun item.tag item.outcome
names_at-more facts history front item =
    flat_map-append (λ x. names_in facts history x.shown.fun x.tag x.outcome) front (item ∷ [])
    ∙ ap (λ v. names_at facts history front ++ v) (append-nil (names_in facts history item.shown.fun item.tag item.outcome))
