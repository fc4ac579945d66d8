-- Whether a place wakes who waits on a descriptor stays as it is where a run grows.
use Rattle.std.proofs.Common.{◌≡◌, ℕ, Bool, true, false, not, ◌&&◌, ◌||◌, List, [], ◌∷◌, ◌++◌, refl, ◌∙◌, ap}
use Rattle.std.specs.List.{list_any}
use Rattle.sg_facts.specs.declared.entry.Entry.{Entry}
use Rattle.sg_facts.specs.declared.row.Row.{Row}
use Rattle.sg_facts.specs.declared.trace.Item.{Item}
use Rattle.sg_facts.specs.Facts.{Facts}
use Rattle.sg_facts.specs.Object.{object_of}
use Rattle.sg_recovery_laws.specs.sg_hist.Reading.{Position, items_after, is_by_guard, is_item_of, object_before, stands_before}
use Rattle.sg_recovery_laws.specs.sg_hist.Wakes.{wakes, wakes_at}
use Rattle.sg_recovery_laws.proofs.sg_hist.Growing.{entries_before-committed, entries_before-more, entries_before-not_yet, entries_before-refused}
use Rattle.sg_recovery_laws.specs.sg_hist.Growing.{IsGrown, IsOfNoEntry}
use Rattle.sg_recovery_laws.proofs.LastItem.Later.{object_before_last}
use Rattle.sg_recovery_laws.specs.LastItem.LastPlace.{HaveItems, last_place}

-- ---- tests of lists

pub any_but : {A : Type 0} (test : A → Bool) (xs : List A) (x : A) → test x ≡ false → list_any test (xs ++ x ∷ []) ≡ list_any test xs
any_but test [] x none = ap (λ b. b || false) none
any_but test (y ∷ xs) x none = ap (λ b. test y || b) (any_but test xs x none)

pub any_front : {A : Type 0} (test : A → Bool) (xs : List A) (x : A) → list_any test xs ≡ true → list_any test (xs ++ x ∷ []) ≡ true
any_front test [] x is = absurd (cc is)
any_front test (y ∷ xs) x is = by (test y) is (any_front test xs x)
  where
    by : (b : Bool) → (b || list_any test xs) ≡ true → (list_any test xs ≡ true → list_any test (xs ++ x ∷ []) ≡ true) → (b || list_any test (xs ++ x ∷ [])) ≡ true
    by true is rest = refl
    by false is rest = rest is

pub any_end : {A : Type 0} (test : A → Bool) (xs : List A) (x : A) → test x ≡ true → list_any test (xs ++ x ∷ []) ≡ true
any_end test [] x one = ap (λ b. b || false) one
any_end test (y ∷ xs) x one = ap (λ b. test y || b) (any_end test xs x one) ∙ either (test y)
  where
    either : (b : Bool) → (b || true) ≡ true
    either true = refl
    either false = refl

module _ (facts : Facts) (id : ℕ) where
  -- whether an entry's item stands at a place, and wakes
  abbrev wakes_by : List Row → Position → Entry → Bool
  wakes_by rows p e = not (is_by_guard e.reply) && is_item_of e p.item && not (list_any (is_item_of e) (items_after p)) && wakes facts rows e.call e.reply id

  by_grown : (rows : List Row) (item : Item) (p q : Position) (e : Entry) → IsGrown item p q → is_item_of e item ≡ false → wakes_by rows q e ≡ wakes_by rows p e
  by_grown rows item p q e g none =
      let later : list_any (is_item_of e) (items_after q) ≡ list_any (is_item_of e) (items_after p) = ap (list_any (is_item_of e)) g.after_it ∙ any_but (is_item_of e) (items_after p) item none in
      ap (λ x. not (is_by_guard e.reply) && is_item_of e x && not (list_any (is_item_of e) (items_after q)) && wakes facts rows e.call e.reply id) g.own
      ∙ ap (λ b. not (is_by_guard e.reply) && is_item_of e p.item && not b && wakes facts rows e.call e.reply id) later

  any_grown : (rows : List Row) (item : Item) (p q : Position) (history : List Entry) → IsGrown item p q → IsOfNoEntry item history → list_any (wakes_by rows q) history ≡ list_any (wakes_by rows p) history
  any_grown rows item p q [] g none = refl
  any_grown rows item p q (e ∷ history) g none =
      ap (λ b. b || list_any (wakes_by rows q) history) (by_grown rows item p q e g none.0) ∙ ap (λ b. wakes_by rows p e || b) (any_grown rows item p q history g none.1)

  -- an item is noted that is of no entry
  pub wakes_noted : (item : Item) (p q : Position) (history : List Entry) → IsOfNoEntry item history → IsGrown item p q → wakes_at facts history id q ≡ wakes_at facts history id p
  wakes_noted item p q history none g =
      ap (λ es. list_any (wakes_by (object_of facts es).rows q) history) (entries_before-more item p q history g none)
      ∙ any_grown (object_before facts history p).rows item p q history g none

  nothing : (a b w : Bool) → (a && b && not true && w) ≡ false
  nothing true true w = refl
  nothing true false w = refl
  nothing false b w = refl

  -- an item is noted with its entry
  pub wakes_entered : (item : Item) (p q : Position) (history : List Entry) (e : Entry) → IsOfNoEntry item history → is_item_of e item ≡ true → IsGrown item p q
      → wakes_at facts (history ++ e ∷ []) id q ≡ wakes_at facts history id p
  wakes_entered item p q history e none own g =
      let rows : List Row = (object_before facts history p).rows in
      let later : list_any (is_item_of e) (items_after q) ≡ true = ap (list_any (is_item_of e)) g.after_it ∙ any_end (is_item_of e) (items_after p) item own in
      ap (λ es. list_any (wakes_by (object_of facts es).rows q) (history ++ e ∷ [])) (entries_before-committed item p q history e g none own)
      ∙ any_but (wakes_by rows q) history e
      (ap (λ b. not (is_by_guard e.reply) && is_item_of e q.item && not b && wakes facts rows e.call e.reply id) later
      ∙ nothing (not (is_by_guard e.reply)) (is_item_of e q.item) (wakes facts rows e.call e.reply id))
      ∙ any_grown rows item p q history g none

  -- a refusal by the guard is entered
  pub wakes_refused : (p : Position) (history : List Entry) (e : Entry) → is_by_guard e.reply ≡ true → wakes_at facts (history ++ e ∷ []) id p ≡ wakes_at facts history id p
  wakes_refused p history e guards =
      let rows : List Row = (object_before facts history p).rows in
      ap (λ es. list_any (wakes_by (object_of facts es).rows p) (history ++ e ∷ [])) (entries_before-refused p history e guards)
      ∙ any_but (wakes_by rows p) history e (ap (λ b. not b && is_item_of e p.item && not (list_any (is_item_of e) (items_after p)) && wakes facts rows e.call e.reply id) guards)

  pub not_before : (older front : List Item) (item : Item) (e : Entry) → is_item_of e item ≡ true → stands_before (last_place older front item) e ≡ false
  not_before older front item e own =
      ap (λ b. not (is_by_guard e.reply) && list_any (is_item_of e) (older ++ front) && not (b || false)) own
      ∙ none (not (is_by_guard e.reply)) (list_any (is_item_of e) (older ++ front))
    where
      none : (a b : Bool) → (a && b && not (true || false)) ≡ false
      none true true = refl
      none true false = refl
      none false b = refl

  -- an item that is noted with its entry wakes who waits for that
  pub wakes_last : (older front : List Item) (item : Item) (history : List Entry) (e : Entry) → IsOfNoEntry item history → HaveItems (older ++ front) history → is_item_of e item ≡ true
      → is_by_guard e.reply ≡ false → wakes facts (object_of facts history).rows e.call e.reply id ≡ true → wakes_at facts (history ++ e ∷ []) id (last_place older front item) ≡ true
  wakes_last older front item history e none items own served wake =
      let last : Position = last_place older front item in
      let rows : List Row = (object_of facts history).rows in
      ap (λ es. list_any (wakes_by (object_of facts es).rows last) (history ++ e ∷ [])) (entries_before-not_yet last history e (not_before older front item e own))
      ∙ ap (λ o. list_any (wakes_by o.rows last) (history ++ e ∷ [])) (object_before_last facts older front item history none items)
      ∙ any_end (wakes_by rows last) history e
      (ap (λ b. not b && is_item_of e item && not false && wakes facts rows e.call e.reply id) served
      ∙ ap (λ b. not false && b && not false && wakes facts rows e.call e.reply id) own ∙ wake)
